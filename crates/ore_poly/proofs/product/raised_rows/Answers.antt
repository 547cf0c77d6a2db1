use Rattle.std.proofs.Common.{◌+◌, length, sym, ap, ◌∙◌}
use Rattle.std.proofs.lemmas.List.{length_push}
use Rattle.ring_core.proofs.Coefficients.{elems_more}
use Rattle.ring_core.proofs.Twist.{frob_twist}
use Rattle.ore_poly.proofs.RaisedRows.{raised_more}
use Rattle.ore_poly.proofs.product.raised_rows.Goals as goal

pub loop-t-preserved : goal.loop-t-preserved
loop-t-preserved g c =
    let k = c.args.field.now in
    let r = g.K.Field.ops k in
    let f = g.K.FrobField.frob_ops k in
    let field = g.met.K.Field.laws k in
    let twist = frob_twist r (g.K.Field.inv_of k) _ f field (g.met.K.FrobField.frob_laws k) in
    let rows = c.loop-t.rows.items in
    let before = c.loop-t.invariant in
    let member = c.next_raised-member.result in
    let more = c.push.new.self.items in
    let pushed = c.in_ok-push.ensures.items in
    record {
      len = ap length pushed ∙ length_push rows member ∙ ap (λ n. n + 1) before.len;
      elems = elems_more r rows more member pushed before.elems c.next_raised-member.ensures.elem;
      raised =
          raised_more r field.ring f.frob twist c.args.b.now c.requires rows more member before.raised pushed
          (λ j i l here. c.next_raised-member.ensures.value j i l (here ∙ sym (ap length c.deref.ensures.value)));
    }
