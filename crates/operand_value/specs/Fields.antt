-- The numbers and letters of the finite fields. A letter that no sum over a field has is zero there.
use Rattle.std.specs.Prelude.{ℕ, ◌%◌}
use Rattle.residue_field.specs.declared.TopElem.{TopElem}
use Rattle.residue_field.specs.Prime.{prime_ops}
use Rattle.residue_field.specs.Base.{Base, ops_of, letter_code}
use Rattle.residue_field.specs.Top.{Top, embed_of, letter_of}
use Rattle.operand_value.specs.Values.{Letters}

-- The numbers modulo a prime, where no sum has a letter.
abbrev pub prime_letters : ℕ → Letters ℕ
prime_letters p = record { number = λ n. n % p; a = (prime_ops p).zero; z = (prime_ops p).zero }

-- In a base field the letter `a` is the residue of the polynomial `a`.
abbrev pub base_letters : Base → Letters ℕ
base_letters k = record { number = λ n. n % k.p; a = letter_code k; z = (ops_of k).zero }

-- In a top field the letter `z` is the residue of the polynomial `z`.
abbrev pub top_letters : Top → Letters TopElem
top_letters t = record { number = λ n. embed_of t (n % t.base.p); a = embed_of t (letter_code t.base); z = letter_of t }
