-- Values paired with a proof of what holds of them. Readers of parts are combined this way into a reader of the
-- whole.
use Rattle.std.specs.Prelude.{◌≡◌, Bool, true, false, Option, Some, None, refl}

-- a value that satisfies this property, if one is found
abbrev pub Found : {X : Type 0} → (X → Type 0) → Type 0
Found {X} P = Option ((x : X) × P x)

-- a test; each branch also gets the result of the test
abbrev pub tested : {Y : Type 0} (b : Bool) → (b ≡ true → Y) → (b ≡ false → Y) → Y
tested true passes fails = passes refl
tested false passes fails = fails refl

-- continues only if a test passes
abbrev pub where_so : {Y : Type 0} (b : Bool) → (b ≡ true → Option Y) → Option Y
where_so b passes = tested b passes (λ _. None)

-- matches an option; each branch also gets what the option is
abbrev pub told : {X Y : Type 0} (o : Option X) → ((x : X) → o ≡ Some x → Y) → (o ≡ None → Y) → Y
told (Some x) some none = some x refl
told None some none = none refl

-- one reader after another
abbrev pub and_then : {X Y : Type 0} → Option X → (X → Option Y) → Option Y
and_then (Some x) more = more x
and_then None more = None

-- the first reader that finds something
abbrev pub or_else : {X : Type 0} → Option X → Option X → Option X
or_else (Some x) other = Some x
or_else None other = other
