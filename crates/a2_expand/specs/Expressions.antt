-- The value of an expression whose names all have one. This project's own: docs/manual/larger-language.md, "Expressions".
use Rattle.std.specs.Prelude.{◌≡◌, ℕ, ◌^◌, Bool, true, false, not, ◌&&◌, nat_lt, nat_le, List, [], ◌∷◌, ◌++◌, map, Option, Some, None, option_map, bytes_eq, if◌then◌else◌}
use Rattle.std.specs.Prelude.{ℤ, pos, negsuc, ◌+ℤ◌, ◌-ℤ◌, ◌*ℤ◌, neg_ℤ, int_lt, int_le, int_div, int_rem}
use Rattle.std.specs.Int.{w32, int_bit_and, int_bit_or, int_bit_xor, int_div_euclid, int_rem_euclid}
use Rattle.a2_text.specs.Signs.{sign as code}
use Rattle.a2_expand.specs.declared.token.Placed.{Placed}
use Rattle.a2_expand.specs.declared.token.Token.{Token}
use Rattle.a2_expand.specs.declared.token.Token.TheVariants as token
use Rattle.a2_expand.specs.declared.value.Constant.{Constant}
use Rattle.a2_expand.specs.declared.value.Prefix.{Prefix}
use Rattle.a2_expand.specs.declared.value.Prefix.TheVariants.{Low, High, Negate, Invert}
use Rattle.a2_expand.specs.declared.value.Infix.{Infix}
use Rattle.a2_expand.specs.declared.value.Infix.TheVariants.{Equal, Unequal, Less, Greater, AtMost, AtLeast, Add, Subtract, Or, Multiply, Divide, Remainder, And, Xor, ShiftLeft, ShiftRight}

-- How it is written

-- an expression: a number or a character, a name, an expression in brackets, one after an operator, or two with an operator between them
pub data Expression : Type 0 where
  number : ℕ → Expression
  name : List ℕ → Expression
  bracketed : Expression → Expression
  after : Prefix → Expression → Expression
  joined : Infix → Expression → Expression → Expression

-- a piece of a text: a number or the code of a character, a name, a sign, two signs that belong together, or something else
pub data Piece : Type 0 where
  number_piece : ℕ → Piece
  name_piece : List ℕ → Piece
  sign : ℕ → Piece
  signs : ℕ → ℕ → Piece
  other : Piece

abbrev pub prefix_piece : Prefix → Piece
prefix_piece Low = sign (code "<")
prefix_piece High = sign (code ">")
prefix_piece Negate = sign (code "-")
prefix_piece Invert = sign (code "~")

abbrev pub infix_piece : Infix → Piece
infix_piece Equal = sign (code "=")
infix_piece Unequal = signs (code "<") (code ">")
infix_piece Less = sign (code "<")
infix_piece Greater = sign (code ">")
infix_piece AtMost = signs (code "<") (code "=")
infix_piece AtLeast = signs (code ">") (code "=")
infix_piece Add = sign (code "+")
infix_piece Subtract = sign (code "-")
infix_piece Or = sign (code "|")
infix_piece Multiply = sign (code "*")
infix_piece Divide = sign (code "/")
infix_piece Remainder = sign (code "%")
infix_piece And = sign (code "&")
infix_piece Xor = sign (code "^")
infix_piece ShiftLeft = signs (code "<") (code "<")
infix_piece ShiftRight = signs (code ">") (code ">")

abbrev pub spelled : Expression → List Piece
spelled (number n) = number_piece n ∷ []
spelled (name word) = name_piece word ∷ []
spelled (bracketed e) = sign (code "(") ∷ (spelled e ++ sign (code ")") ∷ [])
spelled (after op e) = prefix_piece op ∷ spelled e
spelled (joined op e f) = spelled e ++ infix_piece op ∷ spelled f

-- How it groups

-- how tightly it binds: a greater number binds tighter
abbrev pub prefix_rank : Prefix → ℕ
prefix_rank Low = 1
prefix_rank High = 1
prefix_rank Negate = 5
prefix_rank Invert = 5

abbrev pub infix_rank : Infix → ℕ
infix_rank Equal = 2
infix_rank Unequal = 2
infix_rank Less = 2
infix_rank Greater = 2
infix_rank AtMost = 2
infix_rank AtLeast = 2
infix_rank Add = 3
infix_rank Subtract = 3
infix_rank Or = 3
infix_rank _ = 4

abbrev pub rank : Expression → ℕ
rank (after op e) = prefix_rank op
rank (joined op e f) = infix_rank op
rank _ = 6

-- the least rank of what stands after an operator: another `-` or `~` may follow one, but no `<` or `>`, which stand only at the beginning
-- of an expression or of one in brackets
abbrev pub least_after : Prefix → ℕ
least_after Low = 2
least_after High = 2
least_after Negate = 5
least_after Invert = 5

-- operators of the same rank group from the left; what binds less tightly needs brackets
abbrev pub is_grouped : Expression → Bool
is_grouped (number n) = true
is_grouped (name word) = true
is_grouped (bracketed e) = is_grouped e
is_grouped (after op e) = nat_le (least_after op) (rank e) && is_grouped e
is_grouped (joined op e f) = nat_le (infix_rank op) (rank e) && nat_lt (infix_rank op) (rank f) && is_grouped e && is_grouped f

-- What it means

-- a number that may occur: -2,147,483,648 to 2,147,483,647
abbrev pub may_occur : ℤ → Bool
may_occur (pos n) = nat_lt n (2 ^ 31)
may_occur (negsuc n) = nat_lt n (2 ^ 31)

abbrev pub if_may_occur : ℤ → Option ℤ
if_may_occur z = if may_occur z then Some z else None

-- 1 if it holds, otherwise 0
abbrev pub truth : Bool → ℤ
truth true = pos 1
truth false = pos 0

abbrev pub are_equal : ℤ → ℤ → Bool
are_equal a b = int_le a b && int_le b a

-- the power of two of a shift by 0 to 16
abbrev pub power_of_two : ℤ → Option ℤ
power_of_two (pos n) = if nat_le n 16 then Some (pos (2 ^ n)) else None
power_of_two (negsuc n) = None

-- the low byte and the high byte are those of two's complement
abbrev pub changed : Prefix → ℤ → Option ℤ
changed Low a = Some (int_rem_euclid a (pos 256))
changed High a = Some (int_div_euclid (int_rem_euclid a (pos 65536)) (pos 256))
changed Negate a = if_may_occur (neg_ℤ a)
changed Invert a = Some (negsuc 0 -ℤ a)

-- a quotient is rounded toward 0, and a remainder has the sign of the dividend; a shift to the right rounds down; `&`, `|` and `^` combine
-- the bits of two's complement
abbrev pub combined : Infix → ℤ → ℤ → Option ℤ
combined Equal a b = Some (truth (are_equal a b))
combined Unequal a b = Some (truth (not (are_equal a b)))
combined Less a b = Some (truth (int_lt a b))
combined Greater a b = Some (truth (int_lt b a))
combined AtMost a b = Some (truth (int_le a b))
combined AtLeast a b = Some (truth (int_le b a))
combined Add a b = if_may_occur (a +ℤ b)
combined Subtract a b = if_may_occur (a -ℤ b)
combined Or a b = Some (int_bit_or w32 a b)
combined Multiply a b = if_may_occur (a *ℤ b)
combined Divide a b = if are_equal b (pos 0) then None else if_may_occur (int_div a b)
combined Remainder a b = if are_equal b (pos 0) then None else Some (int_rem a b)
combined And a b = Some (int_bit_and w32 a b)
combined Xor a b = Some (int_bit_xor w32 a b)
combined ShiftLeft a b = elim (power_of_two b) [ None ↦ None | Some power ↦ if_may_occur (a *ℤ power) ]
combined ShiftRight a b = option_map (int_div_euclid a) (power_of_two b)

-- the value that the names have: of names that are the same the first one counts
abbrev pub value_of_name : {A : Type 0} → List (Constant A) → List ℕ → Option ℤ
value_of_name [] word = None
value_of_name (constant ∷ constants) word = if bytes_eq constant.name.items word then Some constant.value else value_of_name constants word

-- an expression has this value, and so each part of it has one
abbrev pub HasValue : {A : Type 0} → List (Constant A) → Expression → ℤ → Type 0
HasValue constants (number n) z = z ≡ pos n
HasValue constants (name word) z = value_of_name constants word ≡ Some z
HasValue constants (bracketed e) z = HasValue constants e z
HasValue constants (after op e) z = (a : ℤ) × HasValue constants e a × (changed op a ≡ Some z)
HasValue constants (joined op e f) z = (a : ℤ) × (b : ℤ) × HasValue constants e a × HasValue constants f b × (combined op a b ≡ Some z)

-- The pieces of tokens that were read

abbrev pub piece : Token → Piece
piece (token.Number n) = number_piece n
piece (token.Name word) = name_piece word.now
piece (token.Sign c) = sign c
piece (token.Pair c d) = signs c d
piece _ = other

abbrev pub pieces : List Placed → List Piece
pieces placed = map (λ one. piece one.token) placed

-- these pieces are an expression with this value
pub record Says {A : Type 0} (constants : List (Constant A)) (all : List Piece) (z : ℤ) : Type 0 where
  pub expression : Expression
  pub is_spelled : all ≡ spelled expression
  pub is_grouped : is_grouped expression ≡ true
  pub has_value : HasValue constants expression z
