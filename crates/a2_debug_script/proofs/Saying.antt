-- If the text after a verb means no call.
use Rattle.std.proofs.Common.{◌≡◌, ◌≢◌, ℕ, ◌<◌, List, [], length, drop, None, refl, arith}
use Rattle.a2_text.specs.Words.{words, only_word}
use Rattle.a2_bus.specs.KeyText.{SpellsKeys}
use Rattle.a2_debug_script.specs.declared.calls.Call.{Call}
use Rattle.a2_debug_script.specs.declared.calls.Call.TheVariants as call
use Rattle.a2_debug_script.specs.declared.commands.Verb.{Verb}
use Rattle.a2_debug_script.specs.declared.commands.Verb.TheVariants.{Step, Go, Back, Break, Clear, TypeKeys, Screen}
use Rattle.a2_debug_script.specs.Lines.{only_number}
use Rattle.a2_debug_script.specs.Stored.{Stored}
use Rattle.a2_debug_script.specs.Answers.{MeansCall, done_text}

-- what a verb needs is missing
abbrev pub Lacks : Verb → List ℕ → Type 0
Lacks Step rest = only_number (words rest) ≡ None
Lacks Go rest = only_number (words rest) ≡ None
Lacks Back rest = only_number (words rest) ≡ None
Lacks Break rest = only_word (words rest) ≡ None
Lacks Clear rest = only_word (words rest) ≡ None
Lacks TypeKeys rest = 0 < length rest → (keys : List ℕ) → SpellsKeys (drop 1 rest) keys → 4096 < length keys
Lacks Screen rest = Unit {0}

pub lacking : (verb : Verb) (rest : List ℕ) → Lacks verb rest → (c : Call) → MeansCall verb rest c → ⊥
lacking Step rest none (call.Step n) h = cc
lacking Go rest none (call.Go n) h = cc
lacking Back rest none (call.Back n) h = cc
lacking Break rest none (call.SetBreak word) h = cc
lacking Clear rest none (call.ClearBreak word) h = cc
lacking TypeKeys rest none (call.TypeKeys keys) h = omega (arith, none h.0 keys h.1, h.2)
lacking verb rest none c h = h

-- only one verb has a text when its call succeeds
pub undone : (verb : Verb) (new : Stored) → verb ≢ Back → [] ≡ done_text verb new
undone Back new other = absurd (other refl)
undone _ new other = refl
