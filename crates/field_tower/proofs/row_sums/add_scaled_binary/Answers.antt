use Rattle.field_tower.proofs.RowValues.{binary_written, logged_written}
use Rattle.field_tower.proofs.row_sums.add_scaled_binary.Goals as goal

pub returns-then-c-eq1 : goal.returns-then-c-eq1
returns-then-c-eq1 c =
    binary_written c.args.field.now c.requires.prime c.args.i c.args.c c.args.row.now c.args.out.now c.add_binary.new.out c.requires.factor c.requires.row c.requires.out
    c.if-c-eq1.true c.add_binary.ensures

pub returns-in-Logged : goal.returns-in-Logged
returns-in-Logged c =
    logged_written c.args.field.now c.requires.prime c.args.i c.args.c c.args.row.now c.args.out.now c.add_products.new.out c.requires.factor c.requires.row c.requires.out
    c.add_products.ensures
