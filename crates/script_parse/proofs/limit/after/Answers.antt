use Rattle.script_parse.proofs.Scan.{seen_after}
use Rattle.script_parse.proofs.limit.after.Goals as goal

pub returns : goal.returns
returns c v before s =
    seen_after v before c.args.token.now c.args.seen _ s (c.spot_after.ensures before s.spot) c.left_after.ensures c.commas_after.ensures
