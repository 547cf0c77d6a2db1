use Rattle.std.proofs.Common.{◌≡◌, ◌+◌, [], ◌∷◌, length, ◌∙◌, ap, ap₂, subst, arith}
use Rattle.std.proofs.lemmas.List.{length-append}
use Rattle.ring_core.specs.Twisted.{list_mul}
use Rattle.ring_core.specs.Monomial.{tau_power}
use Rattle.linear_algebra.specs.Linear.{are_rows}
use Rattle.linear_algebra.proofs.RowLists.{rows_push}
use Rattle.fq_poly.specs.Poly.{poly_ops}
use Rattle.drinfeld_mod.specs.Module.{rank_of}
use Rattle.motive_coords.specs.Motive.{IsMotive}
use Rattle.frobenius_rel.proofs.FrobeniusTimes.{motive_row, each_more, tau_is}
use Rattle.frobenius_rel.proofs.matrix.frobenius_rows.Goals as goal

pub loop-i-preserved : goal.loop-i-preserved
loop-i-preserved g c =
    let field = c.args.field.now in
    let r = g.K.Field.ops field in
    let f = g.K.FrobField.frob_ops field in
    let phi = c.args.phi.now in
    let i = c.loop-i.i in
    let before = c.loop-i.invariant in
    let pushed = c.in_ok-push.ensures.rows in
    let row = c.in_ok-row.row.items in
    let shifted : c.in_ok-power.power ≡ list_mul r f.frob (tau_power r (c.degree.result + i)) c.in_ok-one.one = rw c.new-ring.ensures at c.in_ok-power.ensures.value in
    let one : c.in_ok-one.one ≡ r.one ∷ [] = rw c.new-ring.ensures at c.in_ok-one.ensures.value in
    let power = shifted ∙ ap₂ (λ n u. list_mul r f.frob (tau_power r (n + i)) u) c.degree.ensures one
    ∙ tau_is r (g.K.Field.inv_of field) (g.K.Base.Field.ops (g.K.FrobField.base_of field)) f (g.met.K.Field.laws field) (g.met.K.FrobField.frob_laws field) (f.degree + i) in
    let motive = subst (λ u. IsMotive r f.frob phi u row) power c.in_ok-row.ensures in
    record {
      width = c.in_ok-push.ensures.width ∙ before.width;
      count = ap length pushed ∙ length-append c.loop-i.rows.rows (row ∷ []) ∙ (let e = before.count in omega (arith, e));
      shape = ap (are_rows (poly_ops r) (rank_of phi)) pushed ∙ rows_push (poly_ops r) (rank_of phi) c.loop-i.rows.rows row before.shape (motive_row r f.frob phi (tau_power r (f.degree + i)) row motive);
      each = each_more (λ j x. IsMotive r f.frob phi (tau_power r (f.degree + j)) x) i c.loop-i.rows.rows c.push.new.self.rows row before.count pushed before.each motive;
    }
