use Rattle.a2_tests.proofs.Joining.{joined-five}
use Rattle.a2_tests.proofs.call.calling_text.Goals as goal

pub returns : goal.returns
returns g c =
    joined-five c.in_ok-text.text.items c.append_settings.new.text.items c.append_settings-2.new.text.items c.append_call.new.text.items c.append_text.new.text.items
    _ _ _ _ _ c.in_ok-text.ensures.items c.in_ok-append_settings.ensures c.in_ok-append_settings-2.ensures c.in_ok-append_call.ensures c.in_ok-append_text.ensures
