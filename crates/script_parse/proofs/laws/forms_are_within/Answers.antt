use Rattle.script_parse.specs.Version.{version_1}
use Rattle.script_parse.proofs.VersionFit.{version_1_fit}
use Rattle.script_parse.proofs.Within.{script_within}
use Rattle.script_parse.proofs.laws.forms_are_within.Goals as goal

pub returns : goal.returns
returns c bytes list x = script_within version_1 version_1_fit x
