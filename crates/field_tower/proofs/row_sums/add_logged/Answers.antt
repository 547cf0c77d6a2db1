use Rattle.std.proofs.Common.{◌+◌, ◌<◌, bit_xor, length, slice_index_or, refl, sym, subst, ap₂, arith}
use Rattle.ring_core.proofs.Written.{written_more, next_place}
use Rattle.residue_field.specs.Base.{ops_of}
use Rattle.field_tower.proofs.BaseValues.{below_size}
use Rattle.field_tower.proofs.RowValues.{member_below}
use Rattle.field_tower.proofs.row_sums.add_logged.Goals as goal

pub bounds-logs-c : goal.bounds-logs-c
bounds-logs-c c = subst (λ n. c.args.c < n) (sym c.requires.tables.count) (below_size c.args.field.now c.args.c c.requires.factor)

pub bounds-logs-row : goal.bounds-logs-row
bounds-logs-row c =
    subst (λ n. slice_index_or c.args.row.now c.loop-j.j 0 < n) (sym c.requires.tables.count) (member_below c.args.field.now c.args.row.now c.loop-j.j c.requires.row)

pub bounds-powers-log : goal.bounds-powers-log
bounds-powers-log c =
    c.requires.tables.fits c.args.c _ (below_size c.args.field.now c.args.c c.requires.factor) (member_below c.args.field.now c.args.row.now c.loop-j.j c.requires.row)

pub loop-j-preserved : goal.loop-j-preserved
loop-j-preserved c =
    let k = c.args.field.now in
    let before = c.args.out.now in
    let out = c.loop-j.out in
    let row = c.args.row.now in
    let i = c.args.i in
    let j = c.loop-j.j in
    let room : i + j < length out = omega arith in
    written_more 0 i j (i + j) (λ m. bit_xor (slice_index_or before (i + m) 0) ((ops_of k).mul c.args.c (slice_index_or row m 0))) before out _ c.loop-j.invariant refl room
    (ap₂ bit_xor (next_place 0 i j _ before out c.loop-j.invariant)
    (c.requires.tables.value c.args.c (slice_index_or row j 0) (below_size k c.args.c c.requires.factor) (member_below k row j c.requires.row)))
