use Rattle.std.proofs.Common.{refl}
use Rattle.script_parse.specs.Version.{version_1}
use Rattle.script_parse.proofs.Places.{places}
use Rattle.script_parse.proofs.laws.places_of_lines.Goals as goal

pub returns : goal.returns
returns c bytes list x = places version_1 x bytes 0 refl refl refl
