-- The proof of the example, in the form that `a2lab prove` writes.
use Rattle.std.specs.Prelude.{◌≡◌, ◌<◌, true, ℕ, ◌+◌, ◌*◌, ◌%◌, List, [], ◌∷◌, codes, Some, refl}
use Rattle.std.proofs.Common.{arith, true≢false}
use Rattle.a2_opcode.specs.declared.Mnemonic.TheVariants.{Asl, Rts}
use Rattle.a2_opcode.specs.declared.Mode.TheVariants.{Accumulator, Implied}
use Rattle.a2_asm.specs.declared.program.Statement.{Statement}
use Rattle.a2_effect.specs.Registers.{registers_at}
use Rattle.a2_machine.proofs.Computing.{computing}
use Rattle.a2_theorems.specs.Routines.{op}
use Rattle.a2_theorems.proofs.Reading.{reading}
use Rattle.a2_theorems.proofs.TextRunProofs.{entry_of, statements_of}
use Rattle.a2_text.specs.Words.{first_word}
use Rattle.a2_promise.specs.declared.expr.Atom.TheVariants as atom
use Rattle.a2_promise.specs.declared.expr.Operation.TheVariants as operation
use Rattle.a2_promise.specs.declared.words.Infix.TheVariants as join
use Rattle.a2_promise.specs.declared.words.Relation.TheVariants as relation
use Rattle.a2_promise.specs.Grammar.{fits}
use Rattle.a2_promise.specs.Tokens.{tokens}
use Rattle.a2_promise.specs.Tokens as token
use Rattle.a2_promise.specs.PromisedTerms.{Line}
use Rattle.a2_promise.specs.PromisedTerms as told
use Rattle.a2_promise.specs.Written.{meant, spelled}
use Rattle.a2_promise.specs.Written as written
use Rattle.a2_promise_rules.specs.Doubling.{doubling, double, DoublingIsProved, DoublingStates}
use Rattle.a2_promise_rules.proofs.StatedTerms.{not_nothing}
use Rattle.a2_promise_rules.proofs.Entered.{Laid, State, are_bytes, is_met, laid_of}
use Rattle.a2_promise_rules.proofs.Kept.{After, Before, code_of, names_of, proved, stated_by_text}
use Rattle.a2_promise_rules.proofs.Leaving.{leaves}
use Rattle.a2_promise_rules.proofs.Meeting.{Meets, home}
use Rattle.a2_promise_rules.proofs.Proving.{whole_after}

listing : List Statement
listing =
    record { line = 4; addr = 0x300; length = 1; instr = Some (op Asl Accumulator 0) }
    ∷ record { line = 5; addr = 0x301; length = 1; instr = Some (op Rts Implied 0) } ∷ []

read : entry_of doubling ≡ Some 0x300
unfolding reading
read = refl

stated : statements_of doubling ≡ listing
unfolding reading listing
stated = refl

laid : Laid
laid = (0x300, 0x0A ∷ []) ∷ (0x301, 0x60 ∷ []) ∷ []

lays : laid_of doubling ≡ laid
unfolding reading laid
lays = refl

-- a state that meets the requirements
state : State
state = record { registers = registers_at 0x300; bytes = [] }

met : is_met double laid state ≡ true
unfolding laid state
met = refl

small : are_bytes laid ≡ true
unfolding laid
small = refl

named : names_of doubling ≡ ((codes "DOUBLE", 0x300) ∷ [])
unfolding reading
named = refl

-- what the lines before DOUBLE say
said : List Line
said =
    told.requires (written.joined (join.Compare relation.Less) (written.atom atom.A) (written.decimal (token.decimal (codes "128")) 128))
    ∷ told.ensures (written.joined (join.Compare relation.Equal) (written.atom atom.A) (written.joined (join.Apply operation.Times) (written.decimal (token.decimal (codes "2")) 2) (written.before (written.atom atom.A))))
    ∷ told.changes (told.held atom.A ∷ []) ∷ []

pub doubling_tells : DoublingStates
unfolding first_word tokens spelled meant fits said
doubling_tells = record {
  line = _;
  stands = refl;
  is_label = refl;
  told = said;
  are_lines = ((refl, refl), ((refl, refl), ((_, refl, (refl, refl, not_nothing _ refl)), tt)));
  is_promise = refl;
  address = refl;
  are_terms = refl;
}

doubled : (a : ℕ) → a < 128 → (2 * a + 0) % 256 ≡ 2 * a
doubled a low = omega (arith, low)

meets : Meets (code_of listing) 0x300 0xFD (Before double) (After double [])
unfolding computing listing
meets w bytes before = (
  1,
  (
    _,
    refl,
    (
      _,
      record {
        step = refl;
        to = home 0xFD w;
        registers = refl;
        memory = refl;
        home = refl;
        decimal = refl;
      },
      record {
        says = (doubled w.registers.a before.says.0, tt);
        a = λ no. absurd (true≢false no);
        x = λ no. refl;
        y = λ no. refl;
        rest = leaves [] w.memory _ _ refl refl;
        bytes = record { a = omega arith; x = bytes.x; y = bytes.y; ram = whole_after [] w.memory _ bytes.ram tt refl };
      },
    ),
  ),
)

pub doubling_is_proved : DoublingIsProved
doubling_is_proved =
    proved doubling _ listing laid 0x300 3 double state [] read stated (stated_by_text doubling _ _ _ 3 double refl named doubling_tells)
    refl lays small met refl refl refl meets
