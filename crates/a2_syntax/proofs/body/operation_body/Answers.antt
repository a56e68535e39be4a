use Rattle.a2_syntax.proofs.BodyLaws.{does}
use Rattle.a2_syntax.proofs.body.operation_body.Goals as goal

pub returns-in-None : goal.returns-in-None
returns-in-None g c = λ b h. (let (x, k, _) = rw c.in-Instr.is at (does _ _ b h) in (rw c.in-None.is at c.in_ok-operand-in-Instr.ensures) x k)

pub returns-in-None-2 : goal.returns-in-None-2
returns-in-None-2 g c = λ b h. (let (x, k, _) = rw c.in-Org.is at (does _ _ b h) in (rw c.in-None-2.is at c.in_ok-e-in-Org.ensures) x k)

pub returns-in-None-3 : goal.returns-in-None-3
returns-in-None-3 g c = λ b h. (let (x, k, _) = rw c.in-Equ.is at (does _ _ b h) in (rw c.in-None-3.is at c.in_ok-e-in-Equ.ensures) x k)

pub returns-in-None-6 : goal.returns-in-None-6
returns-in-None-6 g c = λ b h. (let (x, k, _) = rw c.in-Asc.is at (does _ _ b h) in (rw c.in-None-6.is at c.in_ok-bytes-in-Asc.ensures) x k)

pub returns-in-None-7 : goal.returns-in-None-7
returns-in-None-7 g c = λ b h. (let (x, k, _) = rw c.in-Ds.is at (does _ _ b h) in (rw c.in-None-7.is at c.in_ok-e-in-Ds.ensures) x k)
