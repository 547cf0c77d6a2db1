use Rattle.std.proofs.Common.{◌≡◌, ◌+◌, ◌<◌, length, get_or, refl, ◌∙◌, subst, arith, length-set}
use Rattle.std.proofs.lemmas.List.{get_or_read}
use Rattle.ring_core.specs.Written.{IsWritten}
use Rattle.ring_core.proofs.Written.{written_more}
use Rattle.fq_linear.proofs.cells.write_at.Goals as goal

pub loop-k-preserved : goal.loop-k-preserved
loop-k-preserved g c =
    let before = c.loop-k.invariant in
    let within : c.args.at + c.loop-k.k < length c.loop-k.cells = omega arith in
    let inside : c.loop-k.k < length c.args.row.now = omega arith in
    record {
      len = length-set _ _ _ ∙ before.len;
      written = λ d. written_more d c.args.at c.loop-k.k _ _ _ _ _ (before.written d) refl within (get_or_read c.args.row.now c.loop-k.k _ inside c.index-row-k.is d);
    }

pub returns-clause-written : goal.returns-clause-written
returns-clause-written g c =
    let all : c.loop-k.k ≡ length c.args.row.now = omega arith in
    λ d. subst (λ n. IsWritten d c.args.at n (λ k. get_or c.args.row.now k d) c.args.cells.now c.loop-k.cells) all (c.loop-k.invariant.written d)
