-- `crossing::to_numbers::tell_link_and_lock` meets its contract: that the numbers stand for the link, the mode and the lock is
-- `link_before_lock`, `mode_before_lock` and `lock_crosses`.
-- Assumes nothing.
use mathlib.Core.Path.{ap, ◌∙◌}
use mathlib.Core.List.{List}
use native.Mathlib.Omega.{arith}
use Prim.Native.Nat.{ℕ}
use lib.ListN.{drop}
use Rattle.crossing.specs.Record.{link_of, mode_of, lock_of, LinkWithin}
use Rattle.crossing.proofs.Crossing.{mode_behind, lock_behind, link_before_lock, mode_before_lock, lock_crosses}
use Rattle.crossing.proofs.to_numbers.tell_link_and_lock.Goals as goal

pub returns : goal.returns
returns c =
    let link = c.args.link in
    let mode = c.args.mode in
    let lock = c.args.lock in
    let numbers = c.args.numbers.now in
    let both = mode_behind link mode numbers _ _ c.put_link.ensures c.put_mode.ensures in
    let told = lock_behind link mode lock numbers _ _ both c.put_lock.ensures in
    -- the types of a link and a lock say it
    let within : LinkWithin link = record { address = omega arith; length = omega arith } in
    record {
      numbers = told;
      crossing = (
        ap link_of told ∙ link_before_lock link mode lock (drop 11 numbers) within,
        ap mode_of told ∙ mode_before_lock link mode lock (drop 11 numbers),
        ap (λ (l : List ℕ). lock_of l lock.password) told ∙ lock_crosses link mode lock (drop 11 numbers) (omega arith),
      );
    }
