use Rattle.std.proofs.Common.{◌≡◌, ◌*◌, ◌-◌, ◌/◌, length, sym, ◌∙◌, ap, ap₂, arith}
use Rattle.ring_core.specs.Coeffs.{is_canonical}
use Rattle.ring_core.specs.Powers.{power_of}
use Rattle.fq_poly.specs.Poly.{poly_ops}
use Rattle.drinfeld_mod.proofs.Norms.{no_rest, divides_exactly, quotient_is}
use Rattle.frobenius_rel.proofs.Products.{relation_canonical}
use Rattle.frobenius_rel.proofs.power.rank_power.Goals as goal

pub power-requires-clause-elem : goal.power-requires-clause-elem
power-requires-clause-elem g c =
    let field = c.args.field.now in
    let base = g.K.FrobField.base_of field in
    let relation = c.in_ok-relation.relation.items in
    ap₂ (λ t v. is_canonical (poly_ops (g.K.Base.Field.ops t)) v) c.base.ensures c.deref.ensures.value
    ∙ relation_canonical (g.K.Field.ops field) (g.K.Base.Field.ops base) (g.K.FrobField.frob_ops field) c.args.phi.now relation c.in_ok-relation.ensures

pub returns-then-r-m-ne0-clause-refused : goal.returns-then-r-m-ne0-clause-refused
returns-then-r-m-ne0-clause-refused g c =
    let relation = c.in_ok-relation.relation.items in
    let degree : c.len-m.result - 1 ≡ length relation - 1 = let w = c.len-m.ensures in let o = c.in_ok-relation.relation.ok in omega (arith, w, o) in
    record {
      relation = relation;
      least = c.in_ok-relation.ensures;
      degree = degree;
      rank = c.rank-r.ensures;
      none = λ e is. c.if-r-m-ne0.true (no_rest (c.len-m.result - 1) c.rank-r.result (e, sym is));
    }

pub returns-clause-power : goal.returns-clause-power
returns-clause-power g c =
    let field = c.args.field.now in
    let base = g.K.FrobField.base_of field in
    let relation = c.in_ok-relation.relation.items in
    let m = c.len-m.result - 1 in
    let d = c.rank-r.result in
    let degree : m ≡ length relation - 1 = let w = c.len-m.ensures in let o = c.in_ok-relation.relation.ok in omega (arith, w, o) in
    let exact : d ≡ m * (d / m) = quotient_is m d (divides_exactly m d c.if-r-m-ne0.false) in
    let turned : d / m * m ≡ m * (d / m) = omega arith in
    record {
      relation = relation;
      least = c.in_ok-relation.ensures;
      exponent = d / m;
      degrees = ap (λ n. d / m * n) (sym degree) ∙ turned ∙ sym exact ∙ c.rank-r.ensures;
      is = c.in_ok-list.ensures ∙ ap₂ (λ t v. power_of (poly_ops (poly_ops (g.K.Base.Field.ops t))) v (d / m)) c.base.ensures c.deref.ensures.value;
    }
