-- What is a listing, with the names or with their table.
use Rattle.std.specs.Prelude.{◌≡◌, ℕ, true, false, List, ◌++◌, refl}
use Rattle.std.proofs.Common.{sym, ap, ◌∙◌}
use Rattle.a2_text.specs.Lines.{lines}
use Rattle.a2_syntax.specs.declared.source.Line.{Line}
use Rattle.a2_syntax.specs.Bare.{BareLine, bare}
use Rattle.a2_syntax.specs.Sources.{IsSource}
use Rattle.a2_asm.specs.Assembled.{Assembled}
use Rattle.a2_run.specs.Meaning.{IsProgramOf}
use Rattle.a2_list.specs.declared.listing.Shown.{Shown}
use Rattle.a2_list.specs.NameTable.{AreInOrder, use_table}
use Rattle.a2_list.specs.Listing.{name_rows, rows_and_gap, IsListing}
use Rattle.a2_list.proofs.UseLaws.{table-bare}

pub name-listing : (shown : Shown) (text : List ℕ) (program : Assembled) (texts : List (List ℕ)) → shown.uses ≡ false → IsProgramOf text program → texts ≡ lines text
    → IsListing shown text (rows_and_gap shown.cycles program texts ++ name_rows program.names)
name-listing shown text program texts uses of_text cut = record {
  program = program;
  is_program = of_text;
  table = name_rows program.names;
  is_table = rw uses refl;
  output_is = ap (λ all. rows_and_gap shown.cycles program all ++ name_rows program.names) cut;
}

pub table-listing : (shown : Shown) (text : List ℕ) (program : Assembled) (texts : List (List ℕ)) (source : List BareLine) (order : List (List ℕ))
    → shown.uses ≡ true → IsProgramOf text program → IsSource text source → AreInOrder program.names order → texts ≡ lines text
    → IsListing shown text (rows_and_gap shown.cycles program texts ++ use_table program.names source order)
table-listing shown text program texts source order uses of_text parsed sorted cut = record {
  program = program;
  is_program = of_text;
  table = use_table program.names source order;
  is_table = rw uses (source, order, parsed, sorted, refl);
  output_is = ap (λ all. rows_and_gap shown.cycles program all ++ use_table program.names source order) cut;
}

pub use-listing : {A : Type 0} (shown : Shown) (text : List ℕ) (program : Assembled) (texts : List (List ℕ)) (source : List BareLine) (own : List (Line A))
    (order : List (List ℕ)) → shown.uses ≡ true → IsProgramOf text program → IsSource text source → bare own ≡ source → AreInOrder program.names order → texts ≡ lines text
    → IsListing shown text (rows_and_gap shown.cycles program texts ++ use_table program.names own order)
use-listing shown text program texts source own order uses of_text parsed same sorted cut = record {
  program = program;
  is_program = of_text;
  table = use_table program.names own order;
  is_table = rw uses (source, order, parsed, sorted, sym (table-bare program.names own order) ∙ ap (λ all. use_table program.names all order) same);
  output_is = ap (λ all. rows_and_gap shown.cycles program all ++ use_table program.names own order) cut;
}
