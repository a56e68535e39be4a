-- The text that is written for an image loads to the same image.
use mathlib.Core.Path.{fun_ext}
use Rattle.std.proofs.Common.{◌≡◌, ◌≢◌, ℕ, zero, suc, ◌+◌, ◌-◌, ◌/◌, ◌%◌, ◌<◌, ◌≤◌, ◌⊎◌, Bool, true, false, cond, List, [], ◌∷◌, ◌++◌, length, Option, Some, None, Result, Ok, Err, inl, inr, refl, sym, ◌∙◌, subst, arith, add-one}
use Rattle.std.specs.Prelude.{IfSome, is_some}
use Rattle.std.proofs.lemmas.Bool.{cases_Bool, cases_lt}
use Rattle.std.proofs.lemmas.Bool.Decides.{nat_tests}
use Rattle.std.proofs.lemmas.List.{append-nil}
use Rattle.a2_hex.specs.declared.fault.HexFault.{HexFault}
use Rattle.a2_hex.specs.Images.{no_bytes, put, overlaid, IsImage, ram_end}
use Rattle.a2_hex.specs.ObjectText.{spaced, run, begins_line, line_at, lines_below, object_text}
use Rattle.a2_hex.specs.ObjectLines.{Loaded, after_line, after_lines, image_of, ◌>>=◌}
use Rattle.a2_hex.proofs.LoadLaws.{after-store, inside}
use Rattle.a2_hex.proofs.TextLaws.{ArePlain, ArePlain-append, lines-text, line-plain, AreBytes, store-line, words-line}
use Rattle.a2_hex.proofs.WriteLaws.{below-next, run_next}

cases_byte : (o : Option ℕ) → ((byte : ℕ) × (o ≡ Some byte)) ⊎ (o ≡ None)
cases_byte (Some byte) = inl (byte, refl)
cases_byte None = inr refl

-- the lines before, and then one more line, are loaded
lines-push : {after next : Loaded} (line : List ℕ) → ((n : ℕ) → after_line n after line ≡ Ok next) → (xs : List (List ℕ)) (n : ℕ) (before : Loaded)
    → after_lines n before xs ≡ Ok after → after_lines n before (xs ++ line ∷ []) ≡ Ok next
lines-push {after = after} line step [] n before h = (let same : before ≡ after = cc in rw (same, step n))
lines-push {after = after} {next = next} line step (x ∷ xs) n before h = following (after_line n before x) h (lines-push line step xs (n + 1))
  where
    following : (r : Result Loaded HexFault) → (r >>= (λ l. after_lines (n + 1) l xs)) ≡ Ok after
        → ((mid : Loaded) → after_lines (n + 1) mid xs ≡ Ok after → after_lines (n + 1) mid (xs ++ line ∷ []) ≡ Ok next)
        → (r >>= (λ l. after_lines (n + 1) l (xs ++ line ∷ []))) ≡ Ok next
    following (Ok mid) e more = more mid e
    following (Err fault) e more = cc

module _ (image : ℕ → Option ℕ) where
  -- a run of the image can only make a place equal to the image
  run-or : (loaded : ℕ → Option ℕ) (a n x : ℕ) → (overlaid loaded a (run image a n) x ≡ loaded x) ⊎ (overlaid loaded a (run image a n) x ≡ image x)
  run-or loaded a zero x = inl refl
  run-or loaded a (suc n) x = elim (cases_byte (image a)) [
    | inl (byte, is) ↦ rw is (elim (run-or (put loaded a byte) (a + 1) n x) [ inl same ↦ grind (arith, nat_tests) | inr there ↦ inr there ])
    | inr none ↦ rw none (inl refl)
  ]

  run-keeps : (loaded : ℕ → Option ℕ) (a n x : ℕ) → loaded x ≡ image x → overlaid loaded a (run image a n) x ≡ image x
  run-keeps loaded a n x h = elim (run-or loaded a n x) [ inl same ↦ same ∙ h | inr there ↦ there ]

  -- the bytes from s to x have no gap
  abbrev HasNoGap : ℕ → ℕ → Type 0
  HasNoGap s x = (y : ℕ) → s ≤ y → y ≤ x → is_some (image y) ≡ true

  run-covers : (loaded : ℕ → Option ℕ) (a n x : ℕ) → a ≤ x → x < a + n → HasNoGap a x → overlaid loaded a (run image a n) x ≡ image x
  run-covers loaded a zero x le lt h = absurd (omega arith)
  run-covers loaded a (suc n) x le lt h = elim (cases_byte (image a)) [
    | inl (byte, is) ↦ rw is (elim (cases_lt a x) [
      | inl more ↦ run-covers (put loaded a byte) (a + 1) n x (omega arith) (omega arith) (λ y below above. h y (omega arith) above)
      | inr last ↦ run-keeps (put loaded a byte) (a + 1) n x (grind (arith, nat_tests))
    ])
    | inr none ↦ (let some = h a (omega arith) le in cc)
  ]

module _ (image : ℕ → Option ℕ) (h : IsImage image) where
  byte-inside : (a byte : ℕ) → image a ≡ Some byte → (a < ram_end) × (byte < 256)
  byte-inside a byte is = (let P : Option ℕ → Type 0 = λ o. IfSome o (λ byte. (a < ram_end) × (byte < 256)) in subst P is (h a))

  -- a run consists of bytes of the image
  run-bytes : (a n : ℕ) → AreBytes (run image a n)
  run-bytes a zero = tt
  run-bytes a (suc n) = elim (cases_byte (image a)) [
    | inl (byte, is) ↦ rw is ((byte-inside a byte is).1, run-bytes (a + 1) n)
    | inr none ↦ rw none tt
  ]

  run-inside : (a n : ℕ) → 0 < length (run image a n) → a + length (run image a n) ≤ ram_end
  run-inside a zero = λ some. absurd (omega arith)
  run-inside a (suc n) = elim (cases_byte (image a)) [
    | inl (byte, is) ↦
        let below = (byte-inside a byte is).0 in
        rw is (λ _. elim (cases_lt 0 (length (run image (a + 1) n))) [ inl some ↦ (let more = run-inside (a + 1) n some in omega arith) | inr last ↦ omega arith ])
    | inr none ↦ rw none (λ some. absurd (omega arith))
  ]

  -- what loading a written line does
  line-loads : (n a : ℕ) (before : Loaded) → begins_line image a ≡ true
      → after_line n before (line_at image a) ≡ Ok (record { image = overlaid before.image a (run image a (8 - a % 8)); next = Some (a + length (run image a (8 - a % 8))) })
  line-loads n a before begins = elim (cases_byte (image a)) [
    | inl (byte, is) ↦
        let bytes : List ℕ = run image a (8 - a % 8) in
        let below = (byte-inside a byte is).0 in
        let some : 0 < length bytes = rw (run_next image a (8 - a % 8) (omega arith), is) (omega arith) in
        let fits = run-inside a (8 - a % 8) some in
        let (word, others, w) = words-line a (58 ∷ spaced bytes) in
        after-store n before (line_at image a) w (store-line a bytes (omega arith) (run-bytes a (8 - a % 8))) ∙ rw (inside a (length bytes) (omega arith))
    | inr none ↦ (let no : begins_line image a ≡ false = rw none in cc)
  ]

  -- after the lines below an address, only bytes of the image are loaded; this includes all those that follow a byte
  -- below the address without a gap, up to an address divisible by 8
  record LoadedBelow (n : ℕ) : Type 0 where
    after : Loaded
    is : after_lines 1 (record { image = no_bytes; next = None }) (lines_below image n) ≡ Ok after
    only : (x : ℕ) → (after.image x ≡ None) ⊎ (after.image x ≡ image x)
    all : (s x : ℕ) → s < n → s ≤ x → x / 8 ≡ s / 8 → HasNoGap image s x → after.image x ≡ image x

  loads-more : (n : ℕ) → LoadedBelow n → LoadedBelow (n + 1)
  loads-more n l = elim (cases_Bool (begins_line image n)) [
    | inl begins ↦ record {
      after = record { image = overlaid l.after.image n (run image n (8 - n % 8)); next = Some (n + length (run image n (8 - n % 8))) };
      is = rw (below-next image n, begins) (lines-push (line_at image n) (λ k. line-loads k n l.after begins) (lines_below image n) 1 _ l.is);
      only = λ x. elim (run-or image l.after.image n (8 - n % 8) x) [ inl same ↦ rw same (l.only x) | inr there ↦ inr there ];
      all = λ s x lt le same whole. elim (cases_lt s n) [
        | inl earlier ↦ run-keeps image l.after.image n (8 - n % 8) x (l.all s x earlier le same whole)
        | inr here ↦ run-covers image l.after.image n (8 - n % 8) x (omega arith) (omega arith) (λ y low. whole y (omega arith))
      ];
    }
    | inr other ↦ record {
      after = l.after;
      is = rw (below-next image n, other, append-nil) l.is;
      only = l.only;
      all = λ s x lt le same whole. elim (cases_lt s n) [
        | inl earlier ↦ l.all s x earlier le same whole
        | inr here ↦
            let e : s ≡ n = omega arith in
            let some : is_some (image n) ≡ true = whole n (omega arith) (omega arith) in
            let old : (n % 8 ≢ 0) × (is_some (image (n - 1)) ≡ true) = grind (arith, nat_tests) in
            let inner = old.0 in
            l.all (n - 1) x (omega arith) (omega arith) (omega arith) (λ y low high. elim (cases_lt y n) [
              | inl before ↦ (let e : y ≡ n - 1 = omega arith in rw (e, old.1))
              | inr later ↦ whole y (omega arith) high
            ])
      ];
    }
  ]

  loads-below : (n : ℕ) → LoadedBelow n
  unfolding lines_below
  loads-below zero = record { after = record { image = no_bytes; next = None }; is = refl; only = λ x. inl refl; all = λ s x lt. absurd (omega arith) }
  loads-below (suc n) = rw (← add-one n) (loads-more n (loads-below n))

  plain-below : (n : ℕ) → ArePlain (lines_below image n)
  unfolding lines_below
  plain-below zero = tt
  plain-below (suc n) = ArePlain-append (lines_below image n) _ (plain-below n) (last (begins_line image n))
    where
      last : (b : Bool) → ArePlain (cond b (line_at image n ∷ []) [])
      last true = (line-plain image n, tt)
      last false = tt

  -- the loaded map is the image
  loaded-is : (l : LoadedBelow ram_end) → l.after.image ≡ image
  loaded-is l = fun_ext (λ x. elim (cases_byte (image x)) [
    | inl (byte, is) ↦ l.all x x ((byte-inside x byte is).0) (omega arith) refl (λ y low high. (let e : y ≡ x = omega arith in rw (e, is)))
    | inr none ↦ elim (l.only x) [ inl e ↦ e ∙ sym none | inr e ↦ e ]
  ])

  pub written-loads : image_of (object_text image) ≡ Ok image
  unfolding object_text
  written-loads =
      let l = loads-below ram_end in
      rw (lines-text (lines_below image ram_end) (plain-below ram_end), l.is, loaded-is l)
