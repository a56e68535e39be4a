use Rattle.std.proofs.Common.{ℕ, ◌-◌, ◌++◌, ap, ap₂, ◌∙◌}
use Rattle.std.specs.Fmt.{decimal}
use Rattle.a2_text.specs.Digits.{hex_word}
use Rattle.a2_effect.specs.Registers.{byte_of_flags}
use Rattle.a2_film.specs.Changes.{changed, switch_digit}
use Rattle.a2_film.specs.Filmed.{seen_by}
use Rattle.a2_film.specs.Rows.{byte_text, switches_text, keys_text}
use Rattle.a2_film.proofs.Appending.{nine-following}
use Rattle.a2_film.proofs.rows.append_fields.Goals as goal

pub returns-clause-items : goal.returns-clause-items
returns-clause-items c =
    let before = seen_by c.args.before.now in
    let after = seen_by c.args.after.now in
    let old = before.registers in
    let new = after.registers in
    nine-following c.args.rows.now.items c.append_address.new.rows.items c.append_number.new.rows.items
    c.append_byte.new.rows.items c.append_byte-2.new.rows.items c.append_byte-3.new.rows.items c.append_byte-4.new.rows.items
    c.append_byte-5.new.rows.items c.append_switches.new.rows.items c.append_keys.new.rows.items
    (hex_word new.pc) (decimal (after.cycles - before.cycles)) (byte_text 0x61 (changed old.a new.a))
    (byte_text 0x78 (changed old.x new.x)) (byte_text 0x79 (changed old.y new.y)) (byte_text 0x73 (changed old.s new.s))
    (byte_text 0x70 (changed (byte_of_flags old.flags) (byte_of_flags new.flags)))
    (switches_text (changed (switch_digit before.switches) (switch_digit after.switches)))
    (keys_text (before.waiting - (after.waiting - c.args.typed)))
    c.append_address.ensures.items
    (c.append_number.ensures.items ∙ ap (λ (n : ℕ). c.append_address.new.rows.items ++ decimal n) c.saturating_sub.ensures)
    c.append_byte.ensures.items c.append_byte-2.ensures.items c.append_byte-3.ensures.items c.append_byte-4.ensures.items
    (c.append_byte-5.ensures.items
    ∙ ap₂ (λ (o n : ℕ). c.append_byte-4.new.rows.items ++ byte_text 0x70 (changed o n)) c.pushed.ensures c.pushed-2.ensures)
    c.append_switches.ensures.items
    (c.append_keys.ensures.items ∙ ap (λ (n : ℕ). c.append_switches.new.rows.items ++ keys_text n)
    (c.saturating_sub-2.ensures ∙ ap (λ (n : ℕ). before.waiting - n) c.saturating_sub-left.ensures))
