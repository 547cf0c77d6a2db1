use Rattle.std.proofs.Common.{◌≡◌, ◌++◌, length, sym, ap, ◌∙◌, arith}
use Rattle.answer.specs.Sums.{term_text, first_terms, joined}
use Rattle.answer_print.proofs.Joined.{is_none, more_left, text_more}
use Rattle.answer_print.proofs.FirstTerms.{no_term, one_term, whole_sum, empty_sum}
use Rattle.answer_print.proofs.sums.write_sum.Goals as goal

pub loop-i-preserved-then-is_zero : goal.loop-i-preserved-then-is_zero
loop-i-preserved-then-is_zero g c =
    let start = c.args.into.now.items in
    let place = c.place_of-k.ensures in
    let e = no_term (g.P.Printer.printer c.args.printer.now) c.args.letter.now c.args.falls c.args.list.now c.loop-i.i c.place_of-k.result
    c.index-list-k.result place.value place.within c.index-list-k.is (sym c.is_zero.ensures ∙ c.if-is_zero.true) in
    record {
      text = c.loop-i.invariant.text ∙ ap (λ ts. start ++ joined c.args.separator.now ts) (sym e);
      empty = c.loop-i.invariant.empty ∙ ap is_none (sym e);
    }

pub loop-i-preserved : goal.loop-i-preserved
loop-i-preserved g c =
    let printer = g.P.Printer.printer c.args.printer.now in
    let letter = c.args.letter.now in
    let separator = c.args.separator.now in
    let start = c.args.into.now.items in
    let k = c.place_of-k.result in
    let place = c.place_of-k.ensures in
    let terms = first_terms printer letter c.args.falls c.args.list.now c.loop-i.i in
    let e = one_term printer letter c.args.falls c.args.list.now c.loop-i.i k c.index-list-k.result
    place.value place.within c.index-list-k.is (sym c.is_zero.ensures ∙ c.if-is_zero.false) in
    let text = c.deref.ensures.value ∙ c.in_ok-write.ensures ∙ ap (λ x. x ++ printer.text c.index-list-k.result) c.clear.ensures.items in
    record {
      text = text_more start separator terms (term_text letter (printer.text c.index-list-k.result) k) c.loop-i.into.items c.write_separator.new.into.items _ c.loop-i.empty
          c.loop-i.invariant.text c.loop-i.invariant.empty c.in_ok-write_separator.ensures
          (c.in_ok-write_term.ensures ∙ ap (λ x. c.write_separator.new.into.items ++ term_text letter x k) text)
          ∙ ap (λ ts. start ++ joined separator ts) (sym e);
      empty = sym (ap is_none e ∙ more_left terms _);
    }

pub returns-then-empty : goal.returns-then-empty
returns-then-empty g c =
    let end = c.loop-i.auto.i-end in
    let over = c.loop-i-test.false in
    let all : c.loop-i.i ≡ length c.args.list.now = omega arith in
    empty_sum (g.P.Printer.printer c.args.printer.now) c.args.letter.now c.args.falls c.args.list.now c.args.into.now.items c.args.separator.now
    c.loop-i.into.items _ c.loop-i.i all c.loop-i.invariant.text (sym c.loop-i.invariant.empty ∙ c.if-empty.true) c.in_ok-extend_from_slice.ensures.items

pub returns : goal.returns
returns g c =
    let end = c.loop-i.auto.i-end in
    let over = c.loop-i-test.false in
    let all : c.loop-i.i ≡ length c.args.list.now = omega arith in
    whole_sum (g.P.Printer.printer c.args.printer.now) c.args.letter.now c.args.falls c.args.list.now c.args.into.now.items c.args.separator.now
    c.loop-i.into.items c.loop-i.i all c.loop-i.invariant.text (sym c.loop-i.invariant.empty ∙ c.if-empty.false)
