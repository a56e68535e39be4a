-- How opening a file changes a shelf. This project's profile.
use Rattle.std.specs.Prelude.{◌≡◌, ℕ, List, Option, Some, None, Result, Ok, Err, IfOk, IfSome, is_err, true}
use Rattle.a2_stream.specs.Stream.{Giver, count_after}

-- a shelf: the content that each name opens, if that is known, and the names that open nothing; how many calls were
-- executed; and how many of them failed
pub record ShelfState : Type 0 where
  pub texts : Option (List ℕ → Option (List ℕ))
  pub calls : ℕ
  pub failures : ℕ

-- a file with this content was opened; or, without a content, none was
abbrev pub OpensText : {R E : Type 0} → (R → Giver) → Option (List ℕ) → Result R E → Type 0
OpensText giver (Some text) (Ok reader) = (giver reader).bytes ≡ Some text
OpensText giver None (Err _) = Unit {0}
OpensText giver _ _ = ⊥

-- one call of `open` is counted, and also as a failed call if it failed; if the contents of the shelf are known, the
-- reader returns the content of this name; and none of its reads has failed yet
pub record Opens {R E : Type 0} (giver : R → Giver) (name : List ℕ) (old new : ShelfState) (result : Result R E) : Type 0 where
  pub texts : new.texts ≡ old.texts
  pub calls : new.calls ≡ count_after true old.calls
  pub failures : new.failures ≡ count_after (is_err result) old.failures
  pub text : IfSome old.texts (λ texts. OpensText giver (texts name) result)
  pub unread : IfOk result (λ reader. (giver reader).failures ≡ 0)
