use Rattle.std.proofs.Common.{refl, subst, sym}
use Rattle.std.specs.List.{All}
use Rattle.script_parse.specs.Version.{version_1}
use Rattle.script_parse.specs.Scripts.{IsPlaceOf}
use Rattle.script_parse.proofs.Places.{places}
use Rattle.drinfeld_cli.proofs.program.answer_bytes.Goals as goal

pub answer_all-requires-clause-places : goal.answer_all-requires-clause-places
answer_all-requires-clause-places g c =
    subst (All (IsPlaceOf c.args.bytes.now)) (sym c.as_slice.ensures) (places version_1 c.in-Ok.ensures.found c.args.bytes.now 0 refl refl refl)
