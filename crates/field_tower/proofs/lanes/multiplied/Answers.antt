use Rattle.std.proofs.Common.{◌≡◌, ℕ, ◌+◌, ◌-◌, ◌*◌, ◌%◌, ◌<◌, ◌≤◌, length, slice_index_or, sym, ap, ap₂, subst, ◌∙◌, arith, zero-add}
use Rattle.field_tower.specs.steps.Lanes.{plain_sum, plain_product, place_of}
use Rattle.field_tower.specs.steps.Images.{image_at}
use Rattle.field_tower.proofs.PlainSums.{plain-same}
use Rattle.field_tower.proofs.Sliding.{place-past, places_low, between_low, slid_product, rest-fits}
use Rattle.field_tower.proofs.lanes.multiplied.Goals as goal

pub slid-low-requires-clause-members : goal.slid-low-requires-clause-members
slid-low-requires-clause-members c =
    let large : 1 < c.args.p = c.requires.large in
    between_low c.between_zeros-wide.result c.args.b c.between_zeros-wide.ensures.before c.between_zeros-wide.ensures.places c.args.p (omega arith) c.requires.right

pub slid-high-requires-clause-members : goal.slid-high-requires-clause-members
slid-high-requires-clause-members c =
    let large : 1 < c.args.p = c.requires.large in
    between_low c.between_zeros-wide.result c.args.b c.between_zeros-wide.ensures.before c.between_zeros-wide.ensures.places c.args.p (omega arith) c.requires.right

pub combined-requires-clause-fits : goal.combined-requires-clause-fits
combined-requires-clause-fits c = λ j l.
    let p = c.args.p in
    let large : 1 < p = c.requires.large in
    let low = c.slid-low.result in
    let width : length low.0 ≡ 16 = omega arith in
    rest-fits p c.args.n (slice_index_or c.window.result j 0) c.requires.large c.requires.positive c.requires.room
    (subst (λ v. v < p) (sym (c.window.ensures.lanes j l))
    (between_low c.between_zeros.result low c.between_zeros.ensures.before c.between_zeros.ensures.places p (omega arith)
    (places_low low p _ (omega arith) width c.slid-low.ensures) _))

pub returns-clause-below : goal.returns-clause-below
returns-clause-below c = λ j l.
    let p = c.args.p in
    let n : ℕ = c.args.n in
    let room : n ≤ 16 = c.requires.room in
    let here : j < n = l in
    let wide = c.between_zeros-wide.result in
    let before = c.between_zeros-wide.ensures.before in
    let places = c.between_zeros-wide.ensures.places in
    let place : 32 - n + j ≡ 16 + (16 - n + j) = omega arith in
    let first : slice_index_or c.window.result j 0 ≡ plain_product c.args.a c.args.b j % p =
    c.window.ensures.lanes j (omega arith)
    ∙ ap (λ k. slice_index_or c.between_zeros.result k 0) place ∙ c.between_zeros.ensures.places (16 - n + j)
    ∙ c.slid-low.ensures (16 - n + j) (omega arith)
    ∙ ap (λ m. m % p) (slid_product wide c.args.b before places c.args.a n j (λ i. n - i + (16 - n + j)) c.requires.left_past (λ i m k. omega arith) (λ i m k. omega arith)) in
    c.combined.ensures j (omega arith)
    ∙ ap (λ m. m % p)
    (ap₂ (λ x y. x + y) first
    (plain-same (n - 1) _ _ (λ t (m : t < n - 1).
    ap₂ (λ x y. x * y) (ap (λ k. place_of (image_at c.args.over.now k) j) (omega arith))
    (c.slid-high.ensures t (omega arith)
    ∙ ap (λ m. m % p) (slid_product wide c.args.b before places c.args.a n (n + t) (λ i. 16 + n - i + t) c.requires.left_past (λ i m k. omega arith) (λ i m k. absurd (omega arith)))))))

pub returns-clause-past : goal.returns-clause-past
returns-clause-past c = λ j l b.
    let p = c.args.p in
    let n : ℕ = c.args.n in
    let room : n ≤ 16 = c.requires.room in
    let here : n ≤ j = l in
    let wide = c.between_zeros-wide.result in
    let before = c.between_zeros-wide.ensures.before in
    let places = c.between_zeros-wide.ensures.places in
    let low = c.slid-low.result in
    let width : length low.0 ≡ 16 = omega arith in
    let place : 32 - n + j ≡ 16 + (16 - n + j) = omega arith in
    let first : slice_index_or c.window.result j 0 ≡ 0 =
    c.window.ensures.lanes j b
    ∙ ap (λ k. slice_index_or c.between_zeros.result k 0) place ∙ c.between_zeros.ensures.places (16 - n + j)
    ∙ place-past low (16 - n + j) width (omega arith) in
    c.combined.ensures j b
    ∙ ap (λ m. m % p)
    (ap (λ x. x + plain_sum (n - 1) (λ t. place_of (image_at c.args.over.now (0 + t)) j * place_of c.slid-high.result t)) first ∙ zero-add _
    ∙ plain-same (n - 1) _ _ (λ t (m : t < n - 1).
    ap₂ (λ x y. x * y) (ap (λ k. place_of (image_at c.args.over.now k) j) (omega arith))
    (c.slid-high.ensures t (omega arith)
    ∙ ap (λ m. m % p) (slid_product wide c.args.b before places c.args.a n (n + t) (λ i. 16 + n - i + t) c.requires.left_past (λ i m k. omega arith) (λ i m k. absurd (omega arith))))))
