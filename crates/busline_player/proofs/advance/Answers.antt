-- `busline_player::advance` meets its contract: the bytes at hand played, and those left over moved.
-- Assumes nothing.
use Rattle.busline_player.proofs.Turning.{answer, left_over}
use Rattle.busline_player.proofs.advance.Goals as goal

pub returns-clause-answer : goal.returns-clause-answer
returns-clause-answer c = let a = c.args in
    let p = c.part-script.ensures.part in
    let d = c.play-said in
    let k = c.keep-left in
    let w = a.progress in
    let b = a.buffer.now in answer w b _ a.kept _ _ d.result p d.ensures.answer k.ensures.answer

pub returns-clause-left : goal.returns-clause-left
returns-clause-left c = let a = c.args in
    let p = c.part-script.ensures.part in
    let d = c.play-said in
    let k = c.keep-left in
    let w = a.progress in
    let b = a.buffer.now in left_over w b _ a.kept _ _ d.result p d.ensures.answer k.ensures.answer _ k.ensures.buffer
