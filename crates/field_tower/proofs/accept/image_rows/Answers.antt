use Rattle.std.proofs.Common.{◌≡◌, ◌<◌, ◌+◌, suc, length, get_or, [], ◌∷◌, ◌++◌, sym, ap, ap₂, ◌∙◌, arith}
use Rattle.std.proofs.lemmas.List.{get_or_read}
use Rattle.ring_core.specs.Coeffs.{first_values}
use Rattle.ring_core.specs.Powers.{power_of}
use Rattle.ring_core.proofs.FirstValues.{length-first_values, at-first_values, values_pushed}
use Rattle.field_tower.specs.UnitPowers.{unit_power}
use Rattle.field_tower.specs.steps.Kernel.{image_row, image_of}
use Rattle.field_tower.proofs.accept.image_rows.Goals as goal

pub offset_bounds-powers-j : goal.offset_bounds-powers-j
offset_bounds-powers-j g c =
    let algebra = c.args.algebra.now in
    let r = g.A.Constants.Field.ops (g.A.Algebra.constants_of algebra) in
    let coords = g.A.Algebra.coords_of algebra in
    let count : length c.args.powers.now ≡ coords.dimension =
    ap length c.requires.powers ∙ length-first_values coords.dimension (unit_power r (g.A.Algebra.ops algebra) coords c.args.q) in
    omega arith

pub bounds-powers-j : goal.bounds-powers-j
bounds-powers-j g c =
    let algebra = c.args.algebra.now in
    let r = g.A.Constants.Field.ops (g.A.Algebra.constants_of algebra) in
    let coords = g.A.Algebra.coords_of algebra in
    let count : length c.args.powers.now ≡ coords.dimension =
    ap length c.requires.powers ∙ length-first_values coords.dimension (unit_power r (g.A.Algebra.ops algebra) coords c.args.q) in
    omega arith

pub image-image-requires-clause-power : goal.image-image-requires-clause-power
image-image-requires-clause-power g c =
    let algebra = c.args.algebra.now in
    let r = g.A.Constants.Field.ops (g.A.Algebra.constants_of algebra) in
    let t = g.A.Algebra.ops algebra in
    let coords = g.A.Algebra.coords_of algebra in
    let q = c.args.q in
    let powers = c.args.powers.now in
    let j = c.loop-j.j in
    let image = unit_power r t coords q in
    let low : j < coords.dimension = omega arith in
    let count : length powers ≡ coords.dimension = ap length c.requires.powers ∙ length-first_values coords.dimension image in
    get_or_read powers j _ (omega arith) c.index-powers-j.is (image j)
    ∙ ap (λ v. get_or v j (image j)) c.requires.powers ∙ at-first_values coords.dimension image j (image j) low
    ∙ ap (λ x. power_of t x q) (sym c.unit.ensures.value)

pub push-requires : goal.push-requires
push-requires g c =
    let algebra = c.args.algebra.now in
    let coords = g.A.Algebra.coords_of algebra in
    ap length c.coords.ensures ∙ length-first_values coords.dimension _ ∙ sym c.loop-j.invariant.width

pub loop-j-preserved : goal.loop-j-preserved
loop-j-preserved g c =
    let algebra = c.args.algebra.now in
    let r = g.A.Constants.Field.ops (g.A.Algebra.constants_of algebra) in
    let t = g.A.Algebra.ops algebra in
    let coords = g.A.Algebra.coords_of algebra in
    let q = c.args.q in
    let map = c.args.map in
    let j = c.loop-j.j in
    let row = image_row r t coords q map in
    let next : suc j ≡ j + 1 = omega arith in
    record {
      width = c.push.ensures.width ∙ c.loop-j.invariant.width;
      rows =
          c.in_ok-push.ensures.rows
          ∙ ap₂ (λ u v. u ++ v ∷ []) c.loop-j.invariant.rows
          (c.coords.ensures
          ∙ ap (λ x. first_values coords.dimension (coords.coord x)) (c.image-image.ensures.value ∙ ap (image_of t q map) c.unit.ensures.value))
          ∙ values_pushed j row ∙ ap (λ k. first_values k row) next;
    }
