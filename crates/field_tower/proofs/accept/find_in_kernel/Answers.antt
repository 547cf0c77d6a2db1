use Rattle.std.proofs.Common.{◌≡◌, MatchOption, IfOk, length, true, sym, subst, ◌∙◌}
use Rattle.linear_algebra.specs.Linear.{are_rows, IsRelation, IsEchelonBasis}
use Rattle.field_tower.specs.steps.Kernel.{AreLow, IsAbove}
use Rattle.field_tower.proofs.Kernels.{rows_shaped, rows_count, basis_shaped, kernel_answer}
use Rattle.field_tower.proofs.accept.find_in_kernel.Goals as goal

pub kernel-requires : goal.kernel-requires
kernel-requires g c =
    let algebra = c.args.algebra.now in
    let ops = g.A.Constants.Field.ops in
    let r = ops (g.A.Algebra.constants_of algebra) in
    let t = g.A.Algebra.ops algebra in
    let coords = g.A.Algebra.coords_of algebra in
    let rows = c.in_ok-rows.rows.rows in
    subst (λ k. are_rows (ops k) c.in_ok-rows.rows.width rows ≡ true) (sym c.constants.ensures)
    (subst (λ w. are_rows r w rows ≡ true) (sym c.in_ok-rows.ensures.width)
    (rows_shaped r c.args.q c.requires.constants t coords (g.met.A.Algebra.laws algebra) c.args.map rows c.in_ok-rows.ensures.rows))

pub find_above-requires-clause-width : goal.find_above-requires-clause-width
find_above-requires-clause-width g c =
    let algebra = c.args.algebra.now in
    let r = g.A.Constants.Field.ops (g.A.Algebra.constants_of algebra) in
    let t = g.A.Algebra.ops algebra in
    let coords = g.A.Algebra.coords_of algebra in
    c.in_ok-relations.ensures.width
    ∙ rows_count r c.args.q c.requires.constants t coords (g.met.A.Algebra.laws algebra) c.args.map c.in_ok-rows.rows.rows c.in_ok-rows.ensures.rows

pub find_above-requires-clause-rows : goal.find_above-requires-clause-rows
find_above-requires-clause-rows g c =
    let algebra = c.args.algebra.now in
    let ops = g.A.Constants.Field.ops in
    let r = ops (g.A.Algebra.constants_of algebra) in
    let t = g.A.Algebra.ops algebra in
    let coords = g.A.Algebra.coords_of algebra in
    let law = g.met.A.Algebra.laws algebra in
    let rows = c.in_ok-rows.rows.rows in
    let basis = c.in_ok-relations.relations.rows in
    let is = subst (λ k. IsEchelonBasis (ops k) (length rows) (IsRelation (ops k) rows) basis) c.constants.ensures c.in_ok-relations.ensures.basis in
    subst (λ w. are_rows r w basis ≡ true)
    (sym (c.in_ok-relations.ensures.width ∙ rows_count r c.args.q c.requires.constants t coords law c.args.map rows c.in_ok-rows.ensures.rows))
    (basis_shaped r c.args.q c.requires.constants t coords law c.args.map rows c.in_ok-rows.ensures.rows basis is)

pub returns : goal.returns
returns g c =
    let algebra = c.args.algebra.now in
    let ops = g.A.Constants.Field.ops in
    let r = ops (g.A.Algebra.constants_of algebra) in
    let t = g.A.Algebra.ops algebra in
    let coords = g.A.Algebra.coords_of algebra in
    let rows = c.in_ok-rows.rows.rows in
    let basis = c.in_ok-relations.relations.rows in
    let is = subst (λ k. IsEchelonBasis (ops k) (length rows) (IsRelation (ops k) rows) basis) c.constants.ensures c.in_ok-relations.ensures.basis in
    kernel_answer r c.args.q c.requires.constants t coords (g.met.A.Algebra.laws algebra) c.args.map rows c.in_ok-rows.ensures.rows
    basis is c.find_above.result
    (subst (λ low. IfOk c.find_above.result (λ o. MatchOption o (AreLow r low basis) (IsAbove r coords low basis))) c.low_places.ensures c.find_above.ensures)
