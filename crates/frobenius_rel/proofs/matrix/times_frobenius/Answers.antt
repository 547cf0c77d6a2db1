use Rattle.std.proofs.Common.{◌≡◌, ◌<◌, [], ◌∷◌, ◌++◌, length, refl, sym, ◌∙◌, ap, ap₂, arith, subst}
use Rattle.std.proofs.lemmas.List.{get_or_read_under}
use Rattle.linear_algebra.specs.Linear.{row_at}
use Rattle.fq_poly.specs.Poly.{poly_ops}
use Rattle.drinfeld_mod.specs.Module.{rank_of}
use Rattle.poly_reduce.specs.Matrices.{row_times}
use Rattle.poly_reduce.specs.Matrices.{product as product_of}
use Rattle.frobenius_rel.proofs.matrix.times_frobenius.Goals as goal

pub returns : goal.returns
returns g c =
    let p = poly_ops (g.K.Field.ops c.args.field.now) in
    let d = rank_of c.args.phi.now in
    let matrix = c.args.matrix.now.rows in
    let list = c.args.list.items in
    let single : c.push.new.self.rows ≡ list ∷ [] = c.in_ok-push.ensures.rows ∙ ap (λ t. t ++ list ∷ []) c.new-row.ensures.rows in
    let made : c.in_ok-made.made.rows ≡ row_times p d list matrix ∷ [] =
    c.in_ok-made.ensures.rows ∙ ap₂ (λ w t. product_of p w t matrix) c.requires.width single in
    let read = c.as_slice.ensures ∙ made in
    c.in_ok-copies.ensures ∙ c.as_slice-2.ensures
    ∙ get_or_read_under c.as_slice.result.now 0 (length c.as_slice.result.now) c.index-as_slice-0.result [] c.index-as_slice-0.is (subst (λ t. 0 < length t) (sym read) (omega arith)) refl
    ∙ ap (λ t. row_at t 0) read
