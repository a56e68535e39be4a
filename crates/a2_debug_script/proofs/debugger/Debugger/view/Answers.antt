use Rattle.std.proofs.Common.{arith}
use Rattle.a2_debug_script.proofs.Sessions.{last_is}
use Rattle.a2_debug_script.proofs.Viewing.{byte_shown}
use Rattle.a2_debug_script.proofs.debugger.Debugger.view.Goals as goal

pub returns-clause-bytes1 : goal.returns-clause-bytes1
returns-clause-bytes1 g c = λ a low. grind (arith, last_is c.args.self.now, byte_shown c.self.inside.machine.state.bus 0x0400 a low)

pub returns-clause-bytes2 : goal.returns-clause-bytes2
returns-clause-bytes2 g c = λ a low. grind (arith, last_is c.args.self.now, byte_shown c.self.inside.machine.state.bus 0x0800 a low)
