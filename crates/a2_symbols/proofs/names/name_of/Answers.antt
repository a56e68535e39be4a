use Rattle.std.proofs.Common.{◌≡◌, ◌+◌, sym, ap, ◌∙◌, string_bytes, Bool, drop, if◌then◌else◌, eq-eqb}
use Rattle.std.proofs.lemmas.Bool.{ne_eqb}
use Rattle.a2_asm.specs.Entries.{entries}
use Rattle.a2_symbols.specs.Names.{name_of}
use Rattle.a2_symbols.proofs.Naming.{entry-at, name-next}
use Rattle.a2_symbols.proofs.names.name_of.Goals as goal

pub returns-then-value-address : goal.returns-then-value-address
returns-then-value-address g c =
    let text : c.as_bytes.result.now ≡ string_bytes c.in-Some.name.now = c.as_bytes.ensures.value ∙ c.as_str.ensures.value in
    let names = entries c.args.names.now in
    let name = string_bytes c.in-Some.name.now in
    let next = name-next names c.args.address c.loop-index.index (name, c.in-Some.value.now)
    (entry-at _ _ c.get_index.result _ c.args.names.now.entries c.loop-index.index c.get_index.ensures.entry c.in-Some.is) in
    text ∙ sym (next ∙ ap (λ (b : Bool). if b then name else name_of (drop (c.loop-index.index + 1) names) c.args.address)
    (eq-eqb c.in-Some.value.now c.args.address c.if-value-address.true)) ∙ c.loop-index.invariant

pub loop-index-preserved : goal.loop-index-preserved
loop-index-preserved g c =
    let names = entries c.args.names.now in
    let name = string_bytes c.in-Some.name.now in
    let next = name-next names c.args.address c.loop-index.index (name, c.in-Some.value.now)
    (entry-at _ _ c.get_index.result _ c.args.names.now.entries c.loop-index.index c.get_index.ensures.entry c.in-Some.is) in
    sym (next ∙ ap (λ (b : Bool). if b then name else name_of (drop (c.loop-index.index + 1) names) c.args.address)
    (ne_eqb c.in-Some.value.now c.args.address c.if-value-address.false)) ∙ c.loop-index.invariant
