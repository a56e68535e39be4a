-- The effect of typed bytes on a line and its history. This project's profile.
use Rattle.std.specs.Prelude.{ℕ, ◌+◌, ◌-◌, ◌==◌, nat_lt, List, [], length, take, if◌then◌else◌, Option, Some, None}
use Rattle.a2_tty.specs.declared.line_editor.keys.Key.{Key}
use Rattle.a2_tty.specs.declared.line_editor.keys.Key.TheVariants as key
use Rattle.a2_tty.specs.declared.line_editor.keys.Sequence.{Sequence}
use Rattle.a2_tty.specs.declared.line_editor.keys.Sequence.TheVariants.{Plain}
use Rattle.a2_tty.specs.declared.line_editor.editor.Act.{Act}
use Rattle.a2_tty.specs.declared.line_editor.editor.Act.TheVariants as act_is
use Rattle.a2_tty.specs.EditorKeys.{heard}
use Rattle.a2_tty.specs.Lines.{Edited, empty, is_full, shown, at, right_of, with_letter, without_next, without_rest, without_from, word_start}
use Rattle.a2_tty.specs.Histories.{noted, aged}

pub record Editing : Type 0 where
  pub line : Edited
  -- what was typed before an older line was shown
  pub draft : List ℕ
  -- the earlier lines, the oldest first
  pub history : List (List ℕ)
  -- how many lines ago the shown line was given, or 0 if it is being typed now
  pub age : ℕ
  pub sequence : Sequence

abbrev pub begun : Editing
begun = record { line = empty; draft = []; history = []; age = 0; sequence = Plain }

abbrev pub edited : Edited → Editing → Editing
edited line e = record e { line = line }

abbrev pub emptied : Editing → Editing
emptied e = record e { line = empty; draft = []; age = 0 }

-- a line of the history, or the one that is being typed
abbrev pub showing : ℕ → Editing → Editing
showing age e = record e { line = shown (take 255 (if age == 0 then e.draft else aged age e.history)); age = age }

-- what is typed is kept when an older line replaces it
abbrev pub drafted : Editing → Editing
drafted e = if e.age == 0 then record e { draft = e.line.bytes } else e

abbrev pub older : Editing → Editing
older e = if nat_lt e.age (length e.history) then showing (e.age + 1) (drafted e) else e

abbrev pub newer : Editing → Editing
newer e = if e.age == 0 then e else showing (e.age - 1) e

abbrev pub done_letter : ℕ → Edited → Edited
done_letter letter line = with_letter letter line

-- Ctrl-D on a line that is not empty
abbrev pub left : Edited → Edited
left line = if length line.bytes == 0 then line else without_next line

-- the effect of a key
abbrev pub done : Key → Editing → Editing
done (key.Letter letter) e = edited (done_letter letter e.line) e
done key.Left e = edited (at (e.line.cursor - 1) e.line) e
done key.Right e = edited (at (right_of e.line) e.line) e
done key.Start e = edited (at 0 e.line) e
done key.End e = edited (at (length e.line.bytes) e.line) e
done key.RubOut e = edited (without_from (e.line.cursor - 1) e.line) e
done key.Delete e = edited (without_next e.line) e
done key.DropRest e = edited (without_rest e.line) e
done key.DropFront e = edited (without_from 0 e.line) e
done key.DropWord e = edited (without_from (word_start e.line) e.line) e
done key.Older e = older e
done key.Newer e = newer e
done key.Clear e = e
done key.GiveUp e = emptied e
done key.Return e = e
done key.Leave e = edited (left e.line) e

-- what the caller must do then
abbrev pub act_of_letter : Edited → Act
act_of_letter line = if is_full line then act_is.Ring else act_is.Draw

abbrev pub act_of_leaving : Edited → Act
act_of_leaving line = if length line.bytes == 0 then act_is.Leave else act_is.Draw

abbrev pub act_of : Key → Edited → Act
act_of (key.Letter letter) line = act_of_letter line
act_of key.Clear line = act_is.Clear
act_of key.GiveUp line = act_is.Draw
act_of key.Return line = act_is.Take
act_of key.Leave line = act_of_leaving line
act_of key.Left line = act_is.Draw
act_of key.Right line = act_is.Draw
act_of key.Start line = act_is.Draw
act_of key.End line = act_is.Draw
act_of key.RubOut line = act_is.Draw
act_of key.Delete line = act_is.Draw
act_of key.DropRest line = act_is.Draw
act_of key.DropFront line = act_is.Draw
act_of key.DropWord line = act_is.Draw
act_of key.Older line = act_is.Draw
act_of key.Newer line = act_is.Draw

-- the same for a byte, which may not end a key
abbrev pub done_where : Option Key → Editing → Editing
done_where None e = e
done_where (Some key) e = done key e

abbrev pub act_where : Option Key → Edited → Act
act_where None line = act_is.Nothing
act_where (Some key) line = act_of key line

abbrev pub after : ℕ → Editing → Editing
after byte e = let h = heard e.sequence byte in done_where h.key (record e { sequence = h.next })

abbrev pub act : ℕ → Editing → Act
act byte e = act_where (heard e.sequence byte).key e.line

-- a line that was taken is added to the history
abbrev pub finished : Editing → Editing
finished e = emptied (record e { history = noted e.line.bytes e.history })
