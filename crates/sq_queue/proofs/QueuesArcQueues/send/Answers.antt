use Rattle.sq_pool.specs.Trust.{known}
use Rattle.sq_pool.proofs.TrustLemmas.{IsLater-refl}
use Rattle.sq_queue.proofs.RefusalLemmas.{on-refused, if-refused, memory-no-disk, memory-refusal, memory-told, memory-no-misfit}
use Rattle.sq_queue.proofs.QueuesArcQueues.send.Goals as goal

pub returns-in_err-put-clause-face : goal.returns-in_err-put-clause-face
returns-in_err-put-clause-face g c = on-refused _ c.from_residual.result c.from_residual.ensures.0

pub returns-in_err-put-clause-frames : goal.returns-in_err-put-clause-frames
returns-in_err-put-clause-frames g c = on-refused _ c.from_residual.result c.from_residual.ensures.0

pub returns-in_err-put-clause-items : goal.returns-in_err-put-clause-items
returns-in_err-put-clause-items g c = on-refused _ c.from_residual.result c.from_residual.ensures.0

pub returns-in_err-put-clause-others : goal.returns-in_err-put-clause-others
returns-in_err-put-clause-others g c = on-refused _ c.from_residual.result c.from_residual.ensures.0

pub returns-in_err-put-clause-together : goal.returns-in_err-put-clause-together
returns-in_err-put-clause-together g c = on-refused _ c.from_residual.result c.from_residual.ensures.0

pub returns-in_err-put-clause-disk : goal.returns-in_err-put-clause-disk
returns-in_err-put-clause-disk g c = if-refused c.from_residual.result (λ e memory disk. memory-no-disk e memory disk) c.from_residual.ensures.1

pub returns-in_err-put-clause-cause : goal.returns-in_err-put-clause-cause
returns-in_err-put-clause-cause g c = if-refused c.from_residual.result (λ e memory. memory-refusal c.args.self.now c.put.new.self (g.D.PageDisk.log c.args.disk.now) (g.D.PageDisk.log c.args.disk.now) c.args.arc e memory) c.from_residual.ensures.1

pub returns-in_err-put-clause-honest : goal.returns-in_err-put-clause-honest
returns-in_err-put-clause-honest g c = if-refused c.from_residual.result (λ e memory honest. memory-told e memory) c.from_residual.ensures.1

pub returns-in_err-put-clause-misfit : goal.returns-in_err-put-clause-misfit
returns-in_err-put-clause-misfit g c = if-refused c.from_residual.result (λ e memory tells. memory-no-misfit e memory) c.from_residual.ensures.1

pub returns-in_err-put-clause-later : goal.returns-in_err-put-clause-later
returns-in_err-put-clause-later g c = IsLater-refl _

pub returns-then-has_room-clause-face : goal.returns-then-has_room-clause-face
returns-then-has_room-clause-face g c = c.in_ok-put.ensures.face

pub returns-then-has_room-clause-items : goal.returns-then-has_room-clause-items
returns-then-has_room-clause-items g c = λ tells. c.in_ok-put.ensures.items (known (g.D.PageDisk.log c.args.disk.now)) c.requires.together

pub returns-then-has_room-clause-others : goal.returns-then-has_room-clause-others
returns-then-has_room-clause-others g c = λ tells other differ. c.in_ok-put.ensures.others (known (g.D.PageDisk.log c.args.disk.now)) other differ

pub returns-then-has_room-clause-together : goal.returns-then-has_room-clause-together
returns-then-has_room-clause-together g c = c.in_ok-put.ensures.together (known (g.D.PageDisk.log c.args.disk.now)) c.requires.together

pub returns-then-has_room-clause-later : goal.returns-then-has_room-clause-later
returns-then-has_room-clause-later g c = IsLater-refl _

pub put-requires-clause-room : goal.put-requires-clause-room
put-requires-clause-room g c = c.has_room.ensures.0 c.if-has_room.true

pub put-requires-clause-sound : goal.put-requires-clause-sound
put-requires-clause-sound g c = c.requires.sound
