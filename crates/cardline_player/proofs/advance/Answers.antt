-- `cardline_player::advance` meets its contract: the record at the front of what is at hand.
-- Assumes nothing.
use borrow.Author.Rules.{rules}
use lib.ListN.{length}
use Rattle.cardline_player.proofs.Turning.{turn_answer, turn_buffer, turn_lent, turn_text, turn_room}
use Rattle.store.specs.Lent.{lent_of}
use Rattle.cardline_player.proofs.advance.Goals as goal

pub returns : goal.returns
returns c =
    let a = c.args in
    let d = c.carry_out-said in
    let s = c.settle in
    let p = c.at_hand-script.ensures in
    let e = d.ensures.answer in
    let buffer = a.buffer.now in
    let lent = lent_of a.memory.now a.map.now in
    let room = length a.out.now in
    record {
      answer = turn_answer a.progress a.from a.to buffer lent room _ d.result p e s.result s.ensures.answer;
      buffer = turn_buffer a.progress a.from a.to buffer lent room _ d.result p e _ s.ensures.buffer;
      lent = turn_lent a.progress a.from a.to buffer lent room _ d.result p e _ d.ensures.lent;
      text = turn_text a.progress a.from a.to buffer lent room _ d.result p e s.result s.ensures.answer a.out.now _ d.ensures.text;
      room = turn_room a.progress a.from a.to buffer lent room _ d.result p e s.result s.ensures.answer (λ i. search rules);
    }
