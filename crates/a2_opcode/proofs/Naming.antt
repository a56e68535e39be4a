-- A name belongs to only one mnemonic.
use Rattle.std.specs.Prelude.{◌≡◌, ℕ, ◌<◌, true, List, slice_index_or, refl}
use Rattle.std.proofs.Common.{◌%◌, ltb, sym, ap, ◌∙◌, arith}
use Rattle.std.proofs.lemmas.Bool.{agree_below_at, ltb-true}
use denote.Enum.Declared.{tag_of}
use Rattle.a2_opcode.specs.contracts.Mnemonic.{the_type as mnemonics}
use Rattle.a2_opcode.specs.declared.Mnemonic.{Mnemonic}
use Rattle.a2_opcode.specs.declared.Mnemonic.TheVariants.{Adc}
use Rattle.a2_opcode.specs.declared.names.TheConstants.{MNEMONICS, INDEX_BY_WEIGHT}
use Rattle.a2_opcode.specs.LookupArrays.{weight_of, index_by_letters}
use Rattle.a2_opcode.specs.Names.{name_of}
use Rattle.a2_opcode.proofs.Lookup.{mnemonic-at}

-- each mnemonic is at the index that its letters give
index_by_letters-name : (m : Mnemonic) → index_by_letters (name_of m) ≡ tag_of mnemonics m
unfolding index_by_letters
index_by_letters-name Adc = refl
index_by_letters-name _ = refl

pub at-name : (letters : List ℕ) (m : Mnemonic) → name_of m ≡ letters → slice_index_or MNEMONICS (index_by_letters letters) Adc ≡ m
at-name letters m e = ap (λ k. slice_index_or MNEMONICS k Adc) (ap index_by_letters (sym e) ∙ index_by_letters-name m) ∙ mnemonic-at m

pub same_name : (m n : Mnemonic) → name_of m ≡ name_of n → m ≡ n
same_name m n e = sym (at-name _ m e) ∙ at-name _ n (λ i. name_of n)

-- every index is that of a mnemonic
pub index_by_letters-few : (letters : List ℕ) → index_by_letters letters < 56
unfolding index_by_letters
index_by_letters-few letters =
    ltb-true _ 56 (agree_below_at (λ i. ltb (slice_index_or INDEX_BY_WEIGHT i 0) 56) (λ _. true) 256 (weight_of letters % 256) refl (omega arith))
