-- After each mnemonic, registers agree in the parts that it sets, if they agreed in those that it uses.
use Rattle.std.specs.Prelude.{◌≡◌, ℕ, ◌+◌, ◌-◌, ◌%◌, ◌&&◌, ◌||◌, ◌==◌, Bool, true, false, not, IsTrue, [], ◌∷◌, refl}
use Rattle.std.proofs.Common.{ap, ap₂}
use Rattle.a2_opcode.specs.declared.Mnemonic.{Mnemonic}
use Rattle.a2_opcode.specs.declared.Mnemonic.TheVariants.{Adc, And, Asl, Bcc, Bcs, Beq, Bit, Bmi, Bne, Bpl, Brk, Bvc, Bvs, Clc, Cld, Cli, Clv, Cmp, Cpx, Cpy, Dec, Dex, Dey, Eor, Inc, Inx, Iny, Jmp, Jsr, Lda, Ldx, Ldy, Lsr, Nop, Ora, Pha, Php, Pla, Plp, Rol, Ror, Rti, Rts, Sbc, Sec, Sed, Sei, Sta, Stx, Sty, Tax, Tay, Tsx, Txa, Txs, Tya}
use Rattle.a2_effect.specs.Registers.{Registers, StatusFlags, one_if, byte_of_flags, flags_of_byte}
use Rattle.a2_effect.specs.Arithmetic.{Shifted, added, with_nz, compared, doubled, halved, by_digits, differ}
use Rattle.a2_effect.specs.Effect.{Effect, sets, takes, replaces, stores, pushes, pulls, branches, jumps, calls, returns, returns_from_interrupt, breaks, effect_of, to_a, to_x, to_y, with_flags, decreased, increased, shifted, with_result}
use Rattle.a2_footprint.specs.Reads.{Knows}
use Rattle.a2_footprint.specs.declared.Part.{Part}
use Rattle.a2_footprint.specs.declared.Part.TheVariants.{A as part_a, X as part_x, Y as part_y, N as part_n, V as part_v, D as part_d, I as part_i, Z as part_z, C as part_c}
use Rattle.a2_footprint.specs.InstructionParts.{all_flags, needs, sets_parts}
use Rattle.a2_footprint.specs.Parts.{held, MatchAt, with_parts}

-- registers that agree in some parts agree in others
abbrev pub Stays : (k l : Part → Bool) → Type 0
Stays k l = (r q : Registers) → MatchAt k r q → MatchAt l r q

-- after an effect, registers that agreed in some parts agree in others
abbrev pub Steady : (k l : Part → Bool) → Effect → Type 0
Steady k l (sets change) = (r q : Registers) → MatchAt k r q → MatchAt l (change r) (change q)
Steady k l (takes change) = (b : ℕ) (r q : Registers) → MatchAt k r q → MatchAt l (change b r) (change b q)
Steady k l (replaces change) =
    (b : ℕ) (r q : Registers) → MatchAt k r q
    → ((change b r.flags).byte ≡ (change b q.flags).byte)
    × MatchAt l (record r { flags = (change b r.flags).flags }) (record q { flags = (change b q.flags).flags })
Steady k l (stores byte) = ((r q : Registers) → MatchAt k r q → byte r ≡ byte q) × Stays k l
Steady k l (pushes byte) = ((r q : Registers) → MatchAt k r q → byte r ≡ byte q) × Stays k l
Steady k l (pulls change) = (b : ℕ) (r q : Registers) → MatchAt k r q → MatchAt l (change b r) (change b q)
Steady k l (branches test) = ((r q : Registers) → MatchAt k r q → test r.flags ≡ test q.flags) × Stays k l
Steady k l jumps = Stays k l
Steady k l calls = Stays k l
Steady k l returns = Stays k l
Steady k l returns_from_interrupt = Stays (with_parts all_flags k) l
Steady k l breaks = Stays k l

stays : (k : Part → Bool) → Stays k k
stays k r q h = h

to_a-match : (k : Part → Bool) (b c : ℕ) (r q : Registers) → b ≡ c → MatchAt k r q
    → MatchAt (with_parts (part_a ∷ part_n ∷ part_z ∷ []) k) (to_a b r) (to_a c q)
to_a-match k b c r q e h = record { s = h.s; pc = h.pc; parts = part }
  where
    part : (p : Part) → IsTrue (with_parts (part_a ∷ part_n ∷ part_z ∷ []) k p) → held p (to_a b r) ≡ held p (to_a c q)
    part part_a _ = e
    part part_n _ = ap (λ x. (with_nz x r.flags).n) e
    part part_z _ = ap (λ x. (with_nz x r.flags).z) e
    part p known = h.parts p known

to_x-match : (k : Part → Bool) (b c : ℕ) (r q : Registers) → b ≡ c → MatchAt k r q
    → MatchAt (with_parts (part_x ∷ part_n ∷ part_z ∷ []) k) (to_x b r) (to_x c q)
to_x-match k b c r q e h = record { s = h.s; pc = h.pc; parts = part }
  where
    part : (p : Part) → IsTrue (with_parts (part_x ∷ part_n ∷ part_z ∷ []) k p) → held p (to_x b r) ≡ held p (to_x c q)
    part part_x _ = e
    part part_n _ = ap (λ x. (with_nz x r.flags).n) e
    part part_z _ = ap (λ x. (with_nz x r.flags).z) e
    part p known = h.parts p known

to_y-match : (k : Part → Bool) (b c : ℕ) (r q : Registers) → b ≡ c → MatchAt k r q
    → MatchAt (with_parts (part_y ∷ part_n ∷ part_z ∷ []) k) (to_y b r) (to_y c q)
to_y-match k b c r q e h = record { s = h.s; pc = h.pc; parts = part }
  where
    part : (p : Part) → IsTrue (with_parts (part_y ∷ part_n ∷ part_z ∷ []) k p) → held p (to_y b r) ≡ held p (to_y c q)
    part part_y _ = e
    part part_n _ = ap (λ x. (with_nz x r.flags).n) e
    part part_z _ = ap (λ x. (with_nz x r.flags).z) e
    part p known = h.parts p known

added-match : (k : Part → Bool) (b : ℕ) (r q : Registers) → IsTrue (k part_a) → IsTrue (k part_c) → MatchAt k r q
    → MatchAt (with_parts (part_a ∷ part_n ∷ part_v ∷ part_z ∷ part_c ∷ []) k) (added b r) (added b q)
added-match k b r q known_a known_c h = record { s = h.s; pc = h.pc; parts = part }
  where
    part : (p : Part) → IsTrue (with_parts (part_a ∷ part_n ∷ part_v ∷ part_z ∷ part_c ∷ []) k p)
        → held p (added b r) ≡ held p (added b q)
    part part_a _ = ap₂ (λ a c. (a + b + one_if c) % 256) (h.parts part_a known_a) (h.parts part_c known_c)
    part part_n _ = ap₂ (λ a c. (added b (let f = r.flags in record r { a = a; flags = record f { c = c } })).flags.n) (h.parts part_a known_a) (h.parts part_c known_c)
    part part_v _ = ap₂ (λ a c. (added b (let f = r.flags in record r { a = a; flags = record f { c = c } })).flags.v) (h.parts part_a known_a) (h.parts part_c known_c)
    part part_z _ = ap₂ (λ a c. (added b (let f = r.flags in record r { a = a; flags = record f { c = c } })).flags.z) (h.parts part_a known_a) (h.parts part_c known_c)
    part part_c _ = ap₂ (λ a c. (added b (let f = r.flags in record r { a = a; flags = record f { c = c } })).flags.c) (h.parts part_a known_a) (h.parts part_c known_c)
    part p known = h.parts p known

compared-match : (k : Part → Bool) (b m n : ℕ) (r q : Registers) → m ≡ n → MatchAt k r q
    → MatchAt (with_parts (part_n ∷ part_z ∷ part_c ∷ []) k) (with_flags (compared m b) r) (with_flags (compared n b) q)
compared-match k b m n r q e h = record { s = h.s; pc = h.pc; parts = part }
  where
    part : (p : Part) → IsTrue (with_parts (part_n ∷ part_z ∷ part_c ∷ []) k p)
        → held p (with_flags (compared m b) r) ≡ held p (with_flags (compared n b) q)
    part part_n _ = ap (λ a. (compared a b r.flags).n) e
    part part_z _ = ap (λ a. (compared a b r.flags).z) e
    part part_c _ = ap (λ a. (compared a b r.flags).c) e
    part p known = h.parts p known

set_c-match : (k : Part → Bool) (b : Bool) (r q : Registers) → MatchAt k r q
    → MatchAt (with_parts (part_c ∷ []) k) (with_flags (λ flags. record flags { c = b }) r) (with_flags (λ flags. record flags { c = b }) q)
set_c-match k b r q h = record { s = h.s; pc = h.pc; parts = part }
  where
    part : (p : Part) → IsTrue (with_parts (part_c ∷ []) k p)
        → held p (with_flags (λ flags. record flags { c = b }) r) ≡ held p (with_flags (λ flags. record flags { c = b }) q)
    part part_c _ = refl
    part p known = h.parts p known

set_d-match : (k : Part → Bool) (b : Bool) (r q : Registers) → MatchAt k r q
    → MatchAt (with_parts (part_d ∷ []) k) (with_flags (λ flags. record flags { d = b }) r) (with_flags (λ flags. record flags { d = b }) q)
set_d-match k b r q h = record { s = h.s; pc = h.pc; parts = part }
  where
    part : (p : Part) → IsTrue (with_parts (part_d ∷ []) k p)
        → held p (with_flags (λ flags. record flags { d = b }) r) ≡ held p (with_flags (λ flags. record flags { d = b }) q)
    part part_d _ = refl
    part p known = h.parts p known

set_i-match : (k : Part → Bool) (b : Bool) (r q : Registers) → MatchAt k r q
    → MatchAt (with_parts (part_i ∷ []) k) (with_flags (λ flags. record flags { i = b }) r) (with_flags (λ flags. record flags { i = b }) q)
set_i-match k b r q h = record { s = h.s; pc = h.pc; parts = part }
  where
    part : (p : Part) → IsTrue (with_parts (part_i ∷ []) k p)
        → held p (with_flags (λ flags. record flags { i = b }) r) ≡ held p (with_flags (λ flags. record flags { i = b }) q)
    part part_i _ = refl
    part p known = h.parts p known

set_v-match : (k : Part → Bool) (b : Bool) (r q : Registers) → MatchAt k r q
    → MatchAt (with_parts (part_v ∷ []) k) (with_flags (λ flags. record flags { v = b }) r) (with_flags (λ flags. record flags { v = b }) q)
set_v-match k b r q h = record { s = h.s; pc = h.pc; parts = part }
  where
    part : (p : Part) → IsTrue (with_parts (part_v ∷ []) k p)
        → held p (with_flags (λ flags. record flags { v = b }) r) ≡ held p (with_flags (λ flags. record flags { v = b }) q)
    part part_v _ = refl
    part p known = h.parts p known

result-match : (k : Part → Bool) (b : ℕ) (r q : Registers) → MatchAt k r q
    → MatchAt (with_parts (part_n ∷ part_z ∷ []) k) (record r { flags = (with_result b r.flags).flags }) (record q { flags = (with_result b q.flags).flags })
result-match k b r q h = record { s = h.s; pc = h.pc; parts = part }
  where
    part : (p : Part) → IsTrue (with_parts (part_n ∷ part_z ∷ []) k p)
        → held p (record r { flags = (with_result b r.flags).flags }) ≡ held p (record q { flags = (with_result b q.flags).flags })
    part part_n _ = refl
    part part_z _ = refl
    part p known = h.parts p known

shifted-match : (k : Part → Bool) (x y : Shifted) (r q : Registers) → x ≡ y → MatchAt k r q
    → MatchAt (with_parts (part_n ∷ part_z ∷ part_c ∷ []) k) (record r { flags = (shifted x r.flags).flags }) (record q { flags = (shifted y q.flags).flags })
shifted-match k x y r q e h = record { s = h.s; pc = h.pc; parts = part }
  where
    part : (p : Part) → IsTrue (with_parts (part_n ∷ part_z ∷ part_c ∷ []) k p)
        → held p (record r { flags = (shifted x r.flags).flags }) ≡ held p (record q { flags = (shifted y q.flags).flags })
    part part_n _ = ap (λ x. (shifted x r.flags).flags.n) e
    part part_z _ = ap (λ x. (shifted x r.flags).flags.z) e
    part part_c _ = ap (λ x. (shifted x r.flags).flags.c) e
    part p known = h.parts p known

-- whatever the flags were, they agree if they become the same
pub flags-match : (k : Part → Bool) (f g : StatusFlags) (r q : Registers) → f ≡ g → MatchAt k r q
    → MatchAt (with_parts all_flags k) (record r { flags = f }) (record q { flags = g })
flags-match k f g r q e h = record { s = h.s; pc = h.pc; parts = part }
  where
    part : (p : Part) → IsTrue (with_parts all_flags k p) → held p (record r { flags = f }) ≡ held p (record q { flags = g })
    part part_n _ = ap (λ f. f.n) e
    part part_v _ = ap (λ f. f.v) e
    part part_d _ = ap (λ f. f.d) e
    part part_i _ = ap (λ f. f.i) e
    part part_z _ = ap (λ f. f.z) e
    part part_c _ = ap (λ f. f.c) e
    part p known = h.parts p known

bit-match : (k : Part → Bool) (b c : ℕ) (n v : Bool) (r q : Registers) → b ≡ c → MatchAt k r q
    → MatchAt (with_parts (part_n ∷ part_v ∷ part_z ∷ []) k) (with_flags (λ f. record f { n = n; v = v; z = b == 0 }) r) (with_flags (λ f. record f { n = n; v = v; z = c == 0 }) q)
bit-match k b c n v r q e h = record { s = h.s; pc = h.pc; parts = part }
  where
    part : (p : Part) → IsTrue (with_parts (part_n ∷ part_v ∷ part_z ∷ []) k p)
        → held p (with_flags (λ f. record f { n = n; v = v; z = b == 0 }) r) ≡ held p (with_flags (λ f. record f { n = n; v = v; z = c == 0 }) q)
    part part_n _ = refl
    part part_v _ = refl
    part part_z _ = ap (λ x. x == 0) e
    part p known = h.parts p known

pub s-match : (k : Part → Bool) (m n : ℕ) (r q : Registers) → m ≡ n → MatchAt k r q
    → MatchAt k (record r { s = m }) (record q { s = n })
s-match k m n r q e h = record { s = e; pc = h.pc; parts = part }
  where
    part : (p : Part) → IsTrue (k p) → held p (record r { s = m }) ≡ held p (record q { s = n })
    part part_a known = h.parts part_a known
    part p known = h.parts p known

pub steady : (mnemonic : Mnemonic) (k : Part → Bool) → Knows k (needs mnemonic)
    → Steady k (with_parts (sets_parts mnemonic) k) (effect_of mnemonic)
unfolding needs sets_parts effect_of
steady Adc k known = λ b r q h. added-match k b r q known.0 known.1.1.0 h
steady And k known = λ b r q h. to_a-match k _ _ r q (ap (λ a. by_digits 8 ◌&&◌ a b) (h.parts part_a known.0)) h
steady Asl k known = λ b r q h. (refl, shifted-match k (doubled b false) (doubled b false) r q refl h)
steady Bcc k known = ((λ r q h. ap not (h.parts part_c known.0)), stays k)
steady Bcs k known = ((λ r q h. h.parts part_c known.0), stays k)
steady Beq k known = ((λ r q h. h.parts part_z known.0), stays k)
steady Bit k known = λ b r q h. bit-match k _ _ _ _ r q (ap (λ a. by_digits 8 ◌&&◌ a b) (h.parts part_a known.0)) h
steady Bmi k known = ((λ r q h. h.parts part_n known.0), stays k)
steady Bne k known = ((λ r q h. ap not (h.parts part_z known.0)), stays k)
steady Bpl k known = ((λ r q h. ap not (h.parts part_n known.0)), stays k)
steady Brk k known = stays k
steady Bvc k known = ((λ r q h. ap not (h.parts part_v known.0)), stays k)
steady Bvs k known = ((λ r q h. h.parts part_v known.0), stays k)
steady Clc k known = λ r q h. set_c-match k false r q h
steady Cld k known = λ r q h. set_d-match k false r q h
steady Cli k known = λ r q h. set_i-match k false r q h
steady Clv k known = λ r q h. set_v-match k false r q h
steady Cmp k known = λ b r q h. compared-match k b _ _ r q (h.parts part_a known.0) h
steady Cpx k known = λ b r q h. compared-match k b _ _ r q (h.parts part_x known.0) h
steady Cpy k known = λ b r q h. compared-match k b _ _ r q (h.parts part_y known.0) h
steady Dec k known = λ b r q h. (refl, result-match k (decreased b) r q h)
steady Dex k known = λ r q h. to_x-match k _ _ r q (ap (λ n. decreased n) (h.parts part_x known.0)) h
steady Dey k known = λ r q h. to_y-match k _ _ r q (ap (λ n. decreased n) (h.parts part_y known.0)) h
steady Eor k known = λ b r q h. to_a-match k _ _ r q (ap (λ a. by_digits 8 differ a b) (h.parts part_a known.0)) h
steady Inc k known = λ b r q h. (refl, result-match k (increased b) r q h)
steady Inx k known = λ r q h. to_x-match k _ _ r q (ap (λ n. increased n) (h.parts part_x known.0)) h
steady Iny k known = λ r q h. to_y-match k _ _ r q (ap (λ n. increased n) (h.parts part_y known.0)) h
steady Jmp k known = stays k
steady Jsr k known = stays k
steady Lda k known = λ b r q h. to_a-match k b b r q refl h
steady Ldx k known = λ b r q h. to_x-match k b b r q refl h
steady Ldy k known = λ b r q h. to_y-match k b b r q refl h
steady Lsr k known = λ b r q h. (refl, shifted-match k (halved b false) (halved b false) r q refl h)
steady Nop k known = λ r q h. h
steady Ora k known = λ b r q h. to_a-match k _ _ r q (ap (λ a. by_digits 8 ◌||◌ a b) (h.parts part_a known.0)) h
steady Pha k known = ((λ r q h. h.parts part_a known.0), stays k)
steady Php k known = (
  (λ r q h i. byte_of_flags (record {
    n = h.parts part_n known.0 i;
    v = h.parts part_v known.1.0 i;
    d = h.parts part_d known.1.1.0 i;
    i = h.parts part_i known.1.1.1.0 i;
    z = h.parts part_z known.1.1.1.1.0 i;
    c = h.parts part_c known.1.1.1.1.1.0 i;
  })),
  stays k,
)
steady Pla k known = λ b r q h. to_a-match k b b r q refl h
steady Plp k known = λ b r q h. flags-match k (flags_of_byte b) (flags_of_byte b) r q refl h
steady Rol k known = λ b r q h. (
  ap (λ c. (doubled b c).byte) (h.parts part_c known.0),
  shifted-match k (doubled b r.flags.c) (doubled b q.flags.c) r q (ap (λ c. doubled b c) (h.parts part_c known.0)) h,
)
steady Ror k known = λ b r q h. (
  ap (λ c. (halved b c).byte) (h.parts part_c known.0),
  shifted-match k (halved b r.flags.c) (halved b q.flags.c) r q (ap (λ c. halved b c) (h.parts part_c known.0)) h,
)
steady Rti k known = stays (with_parts all_flags k)
steady Rts k known = stays k
steady Sbc k known = λ b r q h. added-match k (255 - b) r q known.0 known.1.1.0 h
steady Sec k known = λ r q h. set_c-match k true r q h
steady Sed k known = λ r q h. set_d-match k true r q h
steady Sei k known = λ r q h. set_i-match k true r q h
steady Sta k known = ((λ r q h. h.parts part_a known.0), stays k)
steady Stx k known = ((λ r q h. h.parts part_x known.0), stays k)
steady Sty k known = ((λ r q h. h.parts part_y known.0), stays k)
steady Tax k known = λ r q h. to_x-match k _ _ r q (h.parts part_a known.0) h
steady Tay k known = λ r q h. to_y-match k _ _ r q (h.parts part_a known.0) h
steady Tsx k known = λ r q h. to_x-match k _ _ r q h.s h
steady Txa k known = λ r q h. to_a-match k _ _ r q (h.parts part_x known.0) h
steady Txs k known = λ r q h. s-match k _ _ r q (h.parts part_x known.0) h
steady Tya k known = λ r q h. to_a-match k _ _ r q (h.parts part_y known.0) h
