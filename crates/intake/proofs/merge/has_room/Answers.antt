use Rattle.intake.proofs.Walking.{room_counted}
use Rattle.intake.proofs.merge.has_room.Goals as goal

pub returns : goal.returns
returns g c =
    room_counted g.K.Key.rank (g.A.Store.means c.args.dst.now) (g.B.Store.means c.args.src.now).entries c.first_without_place.result c.is_none.result c.first_without_place.ensures.none c.first_without_place.ensures.some c.is_none.ensures
