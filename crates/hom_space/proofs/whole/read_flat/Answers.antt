use Rattle.std.proofs.Common.{◌≡◌, length, ap, ◌∙◌, arith}
use Rattle.std.proofs.lemmas.List.{length_push}
use Rattle.ring_core.specs.Coeffs.{coeff}
use Rattle.flat_reduce.proofs.Reading.{read_elems, read_row}
use Rattle.hom_space.proofs.HomRows.{read_more}
use Rattle.hom_space.proofs.whole.read_flat.Goals as goal

pub of_coordinates-requires : goal.of_coordinates-requires
of_coordinates-requires g c =
    let base = g.K.Base.Field.ops (g.K.FrobField.base_of c.args.k.now) in
    read_elems base c.args.rows.now c.requires c.loop-i.i _ c.index-rows-i.result (omega arith) (c.as_slice.ensures ∙ c.index-rows-i.is)

pub loop-i-preserved : goal.loop-i-preserved
loop-i-preserved g c =
    let base = g.K.Base.Field.ops (g.K.FrobField.base_of c.args.k.now) in
    let list = c.loop-i.list.items in
    let u = c.in_ok-of_coordinates.field-0 in
    let made = c.in_ok-of_coordinates.ensures in
    let read = read_row c.args.rows.now c.loop-i.i _ c.index-rows-i.result (omega arith) (c.as_slice.ensures ∙ c.index-rows-i.is) in
    let long : length list ≡ c.loop-i.i = c.loop-i.invariant.count in
    record {
      count = ap length c.in_ok-push.ensures.items ∙ length_push list u ∙ omega (arith, long);
      each = read_more _ _ _ c.args.rows.now list c.push.new.self.items u c.loop-i.i c.in_ok-push.ensures.items long c.loop-i.invariant.each
          (record { canonical = made.elem; coords = λ t. made.coords t ∙ ap (λ v. coeff base v t) read });
    }

pub returns : goal.returns
returns g c =
    let long = c.loop-i.invariant.count in
    record { count = omega (arith, long); each = λ j low. c.loop-i.invariant.each j (omega (arith, low, long)) }
