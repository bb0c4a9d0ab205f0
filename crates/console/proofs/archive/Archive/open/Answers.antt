use Rattle.std.proofs.Common.{rules, ◌≡◌, ◌∙◌, ap, length, take}
use Rattle.std.proofs.lemmas.List.{with_items_is}
use Rattle.ratchet.specs.Ids.{id_number}
use Rattle.store.specs.Meaning.{looked}
use Rattle.opening.specs.Open.{unsealed, opened, open_output}
use Rattle.console.specs.Lines.{offered}
use Rattle.console.proofs.Opened.{opened_line}
use Rattle.console.proofs.archive.Archive.open.Goals as goal

pub returns-clause-line : goal.returns-clause-line
returns-clause-line g c =
    let d = c.args.desk.now in
    let out = offered d in
    let u = unsealed g.P.Suite.suite (looked id_number (g.S.Store.means c.args.self.now.store) c.args.id) c.args.message.now in
    let value : c.open_within-opened.result ≡ opened u out = search rules in
    let after : take d.space c.open_within-opened.new.output ≡ open_output u out = search rules in
    let size : length c.open_within-opened.new.output ≡ d.output.len = search rules in
    opened_line _ u _ out _ _ _ value (ap (take d.space) (with_items_is d.output c.open_within-opened.new.output size) ∙ after) c.add_opened.ensures.line
