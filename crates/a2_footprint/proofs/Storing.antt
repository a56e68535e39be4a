-- Stores to two memories that agree in known bytes.
use Rattle.std.specs.Prelude.{◌≡◌, ℕ, ◌==◌, Bool, true, false, ◌||◌, IsTrue, List, [], ◌∷◌, ◌++◌, refl}
use Rattle.std.proofs.Common.{◌∙◌, subst}
use Rattle.std.proofs.lemmas.List.Folds.{list_any-append}
use Rattle.a2_text.specs.Bytes.{is_among}
use Rattle.a2_bus.specs.Memory.{Memory, ram_byte, with_ram}
use Rattle.a2_bus.proofs.Frame.{ram_byte-with_ram}
use Rattle.a2_cpu.specs.Stores.{IsNotIn}
use Rattle.a2_footprint.specs.Reads.{AgreeOn, Knows, with_bytes}
use Rattle.a2_footprint.proofs.Agreeing.{agree_ram, among_or, last_or_before}

-- fewer bytes are known
pub agree_less : (known next : ℕ → Bool) (m n : Memory) → ((a : ℕ) → IsTrue (next a) → IsTrue (known a)) → AgreeOn known m n → AgreeOn next m n
agree_less known next m n less h = record {
  left_pages = h.left_pages;
  right_pages = h.right_pages;
  devices = h.devices;
  bytes = λ a lt is. h.bytes a lt (less a is);
}

-- Two memories after the same stores. They agree in the known bytes and in those that were stored, and each other byte
-- is unchanged in both.
pub record Stored (known : ℕ → Bool) (stores : List ℕ) (m n new_m new_n : Memory) : Type 0 where
  pub agree : AgreeOn (with_bytes stores known) new_m new_n
  pub left : (b : ℕ) → IsNotIn b stores → ram_byte new_m b ≡ ram_byte m b
  pub right : (b : ℕ) → IsNotIn b stores → ram_byte new_n b ≡ ram_byte n b

-- nothing was stored
pub stored_none : (known : ℕ → Bool) (m n : Memory) → AgreeOn known m n → Stored known [] m n m n
stored_none known m n h = record {
  agree = agree_less known (with_bytes [] known) m n (λ a is. is) h;
  left = λ b _. refl;
  right = λ b _. refl;
}

-- the same byte
pub stored_byte : (known : ℕ → Bool) (m n : Memory) (a v : ℕ) → AgreeOn known m n
    → Stored known (a ∷ []) m n (with_ram m a v) (with_ram n a v)
stored_byte known m n a v h = record {
  agree = agree_ram known (with_bytes (a ∷ []) known) m n a v h (λ b is. last_or_before known b a [] is);
  left = λ b out. ram_byte-with_ram m a v b out.0;
  right = λ b out. ram_byte-with_ram n a v b out.0;
}

pub not_in-append : (b : ℕ) (ns ms : List ℕ) → IsNotIn b (ns ++ ms) → IsNotIn b ns × IsNotIn b ms
not_in-append b [] ms h = (tt, h)
not_in-append b (n ∷ ns) ms h = ((h.0, (not_in-append b ns ms h.1).0), (not_in-append b ns ms h.1).1)

-- one after the other
pub stored_both : (known : ℕ → Bool) (first second : List ℕ) (m n m1 n1 m2 n2 : Memory) → Stored known first m n m1 n1
    → Stored (with_bytes first known) second m1 n1 m2 n2 → Stored known (first ++ second) m n m2 n2
stored_both known first second m n m1 n1 m2 n2 one two = record {
  agree = agree_less (with_bytes second (with_bytes first known)) (with_bytes (first ++ second) known) m2 n2 shown two.agree;
  left = λ b out. two.left b (not_in-append b first second out).1 ∙ one.left b (not_in-append b first second out).0;
  right = λ b out. two.right b (not_in-append b first second out).1 ∙ one.right b (not_in-append b first second out).0;
}
  where
    either : (p q k : Bool) → IsTrue ((p || q) || k) → IsTrue (q || (p || k))
    either true true k is = refl
    either true false k is = refl
    either false true k is = refl
    either false false k is = is

    shown : (a : ℕ) → IsTrue (with_bytes (first ++ second) known a) → IsTrue (with_bytes second (with_bytes first known) a)
    shown a is =
        either (is_among first a) (is_among second a) (known a)
        (subst (λ v. IsTrue (v || known a)) (list_any-append (λ m. m == a) first second) is)

-- the same stores, stated for another list
pub stored_as : (known : ℕ → Bool) (some more : List ℕ) (m n new_m new_n : Memory)
    → ((a : ℕ) → IsTrue (is_among more a) → IsTrue (is_among some a || known a)) → ((b : ℕ) → IsNotIn b more → IsNotIn b some)
    → Stored known some m n new_m new_n → Stored known more m n new_m new_n
stored_as known some more m n new_m new_n shown out h = record {
  agree = agree_less (with_bytes some known) (with_bytes more known) new_m new_n each h.agree;
  left = λ b stays. h.left b (out b stays);
  right = λ b stays. h.right b (out b stays);
}
  where
    each : (a : ℕ) → IsTrue (with_bytes more known a) → IsTrue (with_bytes some known a)
    each a is = go (is_among more a) refl is
      where
        go : (among : Bool) → is_among more a ≡ among → IsTrue (among || known a) → IsTrue (with_bytes some known a)
        go true e _ = shown a e
        go false e is = among_or (is_among some a) (known a) is

-- what was known is still known
pub knows_more : (known : ℕ → Bool) (stores xs : List ℕ) → Knows known xs → Knows (with_bytes stores known) xs
knows_more known stores [] h = tt
knows_more known stores (x ∷ xs) h = (among_or (is_among stores x) (known x) h.0, knows_more known stores xs h.1)
