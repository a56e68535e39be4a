-- A service depends only on what it reads and uses, and changes only the bytes it stores and the parts it sets.
use Rattle.std.specs.Prelude.{◌≡◌, ◌<◌, ℕ, ◌+◌, ◌*◌, Bool, true, false, IsTrue, List, [], ◌∷◌, ◌++◌, refl}
use Rattle.std.specs.List.{list_any}
use Rattle.std.proofs.Common.{sym, ap, ap₂, ◌∙◌, subst, subst₂, arith, true≢false}
use Rattle.a2_page.specs.Grid.{byte_in}
use Rattle.a2_page.specs.Text.{blocks_of}
use Rattle.a2_bus.specs.Locations as at
use Rattle.a2_bus.specs.Memory.{ram_byte, ram_end}
use Rattle.a2_effect.specs.Registers.{Registers}
use Rattle.a2_services.specs.declared.rows.Service.{Service}
use Rattle.a2_services.specs.declared.rows.Service.TheVariants.{Cout, Cout1, Crout, Home, Prbyte, Prhex, Vtab, Clreol, Clreop, Rdkey, Keyin, Getln, Wait, Setcol, Plot, Hline, Vline, Scrn, Clrscr}
use Rattle.a2_services.specs.Bytes.{carriage_return}
use Rattle.a2_services.specs.Rows.{service_row}
use Rattle.a2_services.specs.Services.{back, effect, fits, served, cycles_of, wait_cycles, with_a}
use Rattle.a2_services.specs.World.{World}
use Rattle.a2_services.proofs.Counting.{returned_devices}
use Rattle.a2_footprint.specs.InstructionReads.{pull_address}
use Rattle.a2_footprint.specs.declared.Part.{Part}
use Rattle.a2_footprint.specs.declared.Part.TheVariants.{A as part_a}
use Rattle.a2_footprint.specs.Reads.{AgreeOn, Knows, with_bytes}
use Rattle.a2_footprint.specs.Parts.{held, is_part, MatchAt, with_parts}
use Rattle.a2_footprint.specs.Services.{is_keyless, bytes_used, continuation_bytes, fit_bytes, service_needs, service_sets, service_reads, service_stores}
use Rattle.a2_footprint.specs.Serving.{ServicesDependOnUses, ServicesKeepTheRest}
use Rattle.a2_footprint.specs.Uses.{Near}
use Rattle.a2_footprint.proofs.Agreeing.{Pages}
use Rattle.a2_footprint.proofs.Nearing.{knows-append}
use Rattle.a2_footprint.proofs.Left.{StoresAlike, cout_law, crout_law, rdkey_law, wait_law, back_alike}
use Rattle.a2_footprint.proofs.Painting.{hline_law, plot_law, scrn_colour, scrn_law, setcol_law, vline_law}
use Rattle.a2_footprint.proofs.Clearing.{clreol_law, clreop_law, clrscr_law, home_law}
use Rattle.a2_footprint.proofs.Putting.{cout1_law, prbyte_law, prhex_law, vtab_law}
use Rattle.a2_footprint.proofs.Storing.{Stored, knows_more, stored_byte}
use Rattle.a2_footprint.proofs.Ways.{placed_match, returned_registers, returning}

-- Each service
laws : (service : Service) → is_keyless service ≡ true → StoresAlike service
unfolding effect service_stores
laws Cout keyless = cout_law
laws Crout keyless = crout_law
laws Rdkey keyless = rdkey_law
laws Wait keyless = wait_law
laws Setcol keyless = setcol_law
laws Plot keyless = plot_law
laws Hline keyless = hline_law
laws Vline keyless = vline_law
laws Scrn keyless = scrn_law
laws Home keyless = home_law
laws Clreol keyless = clreol_law
laws Clreop keyless = clreop_law
laws Clrscr keyless = clrscr_law
laws Cout1 keyless = cout1_law
laws Prbyte keyless = prbyte_law
laws Prhex keyless = prhex_law
laws Vtab keyless = vtab_law
laws Keyin bad = absurd (true≢false (sym bad))
laws Getln bad = absurd (true≢false (sym bad))
-- a service whose row allows only a store at the mask always stores the same byte there
laws _ keyless = λ parts known s t h fit looks reads.
    (refl, back_alike known _ s t _ _ (stored_byte known s.memory t.memory at.invflg _ h.memory), refl)

-- Registers and cycles

none_match : (k : Part → Bool) (r q : Registers) → MatchAt k r q → MatchAt (with_parts [] k) r q
none_match k r q h = record { s = h.s; pc = h.pc; parts = h.parts }

a_match : (k : Part → Bool) (r q : Registers) (m n : ℕ) → MatchAt k r q → m ≡ n
    → MatchAt (with_parts (part_a ∷ []) k) (record r { a = m }) (record q { a = n })
a_match k r q m n h e = record { s = h.s; pc = h.pc; parts = part }
  where
    part : (p : Part) → IsTrue (with_parts (part_a ∷ []) k p) → held p (record r { a = m }) ≡ held p (record q { a = n })
    part part_a known = e
    part p known = h.parts p known

-- a hook leads to the same address
through_match : (k : Part → Bool) (known : ℕ → Bool) (v w : World) (hook : ℕ) → MatchAt k v.registers w.registers → AgreeOn known v.memory w.memory
    → hook < ram_end → hook + 1 < ram_end → Knows known (hook ∷ (hook + 1) ∷ [])
    → MatchAt k (record v.registers { pc = ram_byte v.memory hook + 256 * ram_byte v.memory (hook + 1) })
    (record w.registers { pc = ram_byte w.memory hook + 256 * ram_byte w.memory (hook + 1) })
through_match k known v w hook h agree low high shown =
    placed_match k v.registers w.registers _ _ _ _ h h.s
    (ap₂ (λ low high. low + 256 * high) (agree.bytes hook low shown.0) (agree.bytes (hook + 1) high shown.1.0))

same_cycles : (service : Service) (parts : Part → Bool) (r q : Registers) → Knows parts (service_needs service) → MatchAt parts r q
    → cycles_of (service_row service).takes r ≡ cycles_of (service_row service).takes q
same_cycles Wait parts r q looks h = ap (λ a. wait_cycles a) (h.parts part_a looks.0)
same_cycles service parts r q looks h = refl

module _ (parts : Part → Bool) (known : ℕ → Bool) (s t : World) (h : Near parts (AgreeOn known) s t) where
  -- a service that returns, from worlds in which it stored
  went_back : (k : Part → Bool) (stores : List ℕ) (v w : World) → MatchAt k v.registers w.registers → v.registers.s ≡ s.registers.s
      → AgreeOn (with_bytes stores known) (back v).memory (back w).memory
      → Knows known (pull_address s.registers.s 1 ∷ pull_address s.registers.s 2 ∷ [])
      → MatchAt k (back v).registers (back w).registers
  went_back k stores v w match same agree shown =
      returning k (with_bytes stores known) v w match
      (subst (λ x. AgreeOn (with_bytes stores known) x w.memory) (returned_devices v)
      (subst (λ y. AgreeOn (with_bytes stores known) (back v).memory y) (returned_devices w) agree))
      (subst (λ a. Knows (with_bytes stores known) (pull_address a 1 ∷ pull_address a 2 ∷ [])) (sym same)
      (knows_more known stores (pull_address s.registers.s 1 ∷ pull_address s.registers.s 2 ∷ []) shown))

  -- a service that sets no register
  unset : (stores : List ℕ) (v w : World) → v.registers ≡ s.registers → w.registers ≡ t.registers
      → AgreeOn (with_bytes stores known) (back v).memory (back w).memory
      → Knows known (pull_address s.registers.s 1 ∷ pull_address s.registers.s 2 ∷ [])
      → MatchAt (with_parts [] parts) (back v).registers (back w).registers
  unset stores v w left right agree shown =
      went_back (with_parts [] parts) stores v w
      (none_match parts v.registers w.registers (subst₂ (λ r q. MatchAt parts r q) (sym left) (sym right) h.registers)) (ap (λ r. r.s) left) agree shown

  registers_law : (service : Service) → is_keyless service ≡ true → fits service s.registers s.memory ≡ true
      → Knows parts (service_needs service) → Knows known (service_reads service s)
      → Knows known (continuation_bytes service s.registers.s)
      → AgreeOn (with_bytes (service_stores service s) known) (effect service s).memory (effect service t).memory
      → MatchAt (with_parts (service_sets service) parts) (effect service s).registers (effect service t).registers
  unfolding effect
  registers_law Cout keyless fitting looks shown ways agree =
      none_match parts _ _ (through_match parts known s t at.csw h.registers h.memory (omega arith) (omega arith) ways)
  registers_law Crout keyless fitting looks shown ways agree =
      through_match (with_parts (part_a ∷ []) parts) known (with_a carriage_return s) (with_a carriage_return t) at.csw
      (a_match parts s.registers t.registers carriage_return carriage_return h.registers refl) h.memory (omega arith) (omega arith) ways
  registers_law Rdkey keyless fitting looks shown ways agree =
      none_match parts _ _ (through_match parts known s t at.ksw h.registers h.memory (omega arith) (omega arith) ways)
  registers_law Wait keyless fitting looks shown ways agree =
      went_back (with_parts (part_a ∷ []) parts) _ (with_a 0 s) (with_a 0 t) (a_match parts s.registers t.registers 0 0 h.registers refl) refl agree ways
  registers_law Scrn keyless fitting looks shown ways agree =
      went_back (with_parts (part_a ∷ []) parts) _ (with_a (colour s) s) (with_a (colour t) t)
      (a_match parts s.registers t.registers _ _ h.registers (scrn_colour parts known s t h fitting looks shown)) refl agree ways
    where
      colour : World → ℕ
      colour w = byte_in (blocks_of w.memory.page1) w.registers.a w.registers.y
  registers_law Getln bad fitting looks shown ways agree = absurd (true≢false (sym bad))
  registers_law Keyin bad fitting looks shown ways agree = absurd (true≢false (sym bad))
  registers_law service keyless fitting looks shown ways agree = unset _ _ _ refl refl agree ways

ways_of : (service : Service) (known : ℕ → Bool) (w : World) → Knows known (service_reads service w) → Knows known (continuation_bytes service w.registers.s)
unfolding service_reads
ways_of service known w shown =
    let ways : List ℕ = continuation_bytes service w.registers.s in
    let fitting : List ℕ = fit_bytes (service_row service).needs in
    (knows-append known ways fitting (knows-append known (ways ++ fitting) (bytes_used service w.registers w.memory) shown).0).0

pub serving : ServicesDependOnUses
unfolding served
serving service parts known s t h keyless fitting looks shown =
    let law : (fits service t.registers t.memory ≡ true)
    × Stored known (service_stores service s) s.memory t.memory (effect service s).memory (effect service t).memory
    × (service_stores service s ≡ service_stores service t) = laws service keyless parts known s t h fitting looks shown in (
      law.0,
      record {
        registers = registers_law parts known s t h service keyless fitting looks shown (ways_of service known s shown) law.1.agree;
        cycles = ap₂ (λ m n. m + n) h.cycles (same_cycles service parts s.registers t.registers looks h.registers);
        memory = law.1.agree;
      },
      law.2,
    )

-- What is unchanged

all_known : {X : Type 0} (xs : List X) → Knows (λ x. true) xs
all_known [] = tt
all_known (x ∷ xs) = (refl, all_known xs)

same_world : (w : World) → Pages w.memory → Near (λ p. true) (AgreeOn (λ a. true)) w w
same_world w pages = record {
  registers = record { s = refl; pc = refl; parts = λ p _. refl };
  cycles = refl;
  memory = record { left_pages = pages; right_pages = pages; devices = refl; bytes = λ a _ _. refl };
}

placed_part : (p : Part) (r : Registers) (s pc : ℕ) → held p (record r { s = s; pc = pc }) ≡ held p r
placed_part part_a r s pc = refl
placed_part p r s pc = refl

with_a_part : (p : Part) (r : Registers) (a : ℕ) → list_any (is_part p) (part_a ∷ []) ≡ false → held p (record r { a = a }) ≡ held p r
with_a_part part_a r a bad = absurd (true≢false bad)
with_a_part p r a other = refl

back_part : (p : Part) (w : World) → held p (back w).registers ≡ held p w.registers
back_part p w = ap (λ r. held p r) (returned_registers w) ∙ placed_part p w.registers _ _

kept_part : (service : Service) (w : World) → is_keyless service ≡ true → (p : Part) → list_any (is_part p) (service_sets service) ≡ false
    → held p (effect service w).registers ≡ held p w.registers
unfolding effect
kept_part Cout w keyless p other = placed_part p w.registers w.registers.s _
kept_part Crout w keyless p other =
    placed_part p (with_a carriage_return w).registers w.registers.s _ ∙ with_a_part p w.registers carriage_return other
kept_part Rdkey w keyless p other = placed_part p w.registers w.registers.s _
kept_part Wait w keyless p other = back_part p (with_a 0 w) ∙ with_a_part p w.registers 0 other
kept_part Scrn w keyless p other = back_part p (with_a _ w) ∙ with_a_part p w.registers _ other
kept_part Getln w bad p other = absurd (true≢false (sym bad))
kept_part Keyin w bad p other = absurd (true≢false (sym bad))
kept_part service w keyless p other = back_part p _

pub keeping : ServicesKeepTheRest
unfolding served
keeping service w keyless fitting pages = (
  (laws service keyless (λ p. true) (λ a. true) w w (same_world w pages) fitting (all_known _) (all_known _)).1.left,
  kept_part service w keyless,
)
