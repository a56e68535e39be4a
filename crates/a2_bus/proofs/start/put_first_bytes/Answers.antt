use Rattle.std.proofs.Common.{◌∙◌, ap, length, slice_index}
use Rattle.a2_bus.proofs.Starting.{first_bytes, zero_at}
use Rattle.a2_bus.proofs.start.put_first_bytes.Goals as goal

pub returns-clause-bytes : goal.returns-clause-bytes
returns-clause-bytes c =
    first_bytes c.fill.new.self c.blank_page.new.ram c.put_first_plain.new.ram
    (λ a. ap (λ bytes. slice_index bytes a) (c.fill.ensures.after (λ byte same. same)) ∙ zero_at (length c.args.ram.now) a)
    c.blank_page.ensures.cells c.blank_page.ensures.others c.put_first_plain.ensures.zeros c.put_first_plain.ensures.others
