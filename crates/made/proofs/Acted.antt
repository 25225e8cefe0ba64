-- Every taken command leaves a made link, in any mode.
--   acted_made    what a command of any index and argument does, wherever a table of moves that is `Leading` takes it
-- A second mode has to show two things of its own, as Commands.antt does of MMC mode, and no command again: that its table is `Leading`, and
-- that the error bits which its answer leaves are ones that can wait (`Pending`; `errors_made` puts them into the link).
-- Assumes nothing.
use mathlib.Core.Path.{◌≡◌, refl, sym, ap, subst, ◌∙◌}
use mathlib.Core.Bool.{Bool, true, false}
use mathlib.Core.List.{List, [], ◌∷◌}
use Prim.Native.Nat.{ℕ, ◌+◌, ◌/◌, ◌≤◌}
use native.Mathlib.Omega.{arith}
use borrow.Author.Tests.{eqb-true}
use lib.Dec.{eqb}
use Rattle.base.proofs.Cases.{cases, opposite}
use Rattle.command.specs.Arguments.{argument_fault}
use Rattle.command.specs.Obey.{passes_lock, erase_tagging, tagging_of, state_at, awaited_by, obeyed, acted_of}
use Rattle.command.specs.declared.Met.{Met}
use Rattle.moves.proofs.Among.{each}
use Rattle.moves.specs.Classes.{class_of}
use Rattle.moves.specs.Indices.{among}
use Rattle.card_record.specs.Record.{size_of, length_read, with_state, with_tags}
use Rattle.card_record.specs.declared.Link.{Link}
use Rattle.states.specs.States.{column_of}
use Rattle.states.specs.declared.Column.{Column}
use Rattle.states.specs.declared.Column.TheVariants as to
use Rattle.states.specs.declared.Incoming.TheVariants.{One as OneIn, Many as ManyIn, LockRequest}
use Rattle.states.specs.declared.Outgoing.TheVariants.{One as OneOut, Many as ManyOut, Protection, Csd, Cid}
use Rattle.states.specs.declared.State.TheVariants.{Tran, Data, Rcv}
use Rattle.tags.proofs.TagTheorems.{made_start, made_end}
use Rattle.tags.specs.Made.{MadeTags}
use Rattle.tags.specs.Tagging.{tags_of, no_tags}
use Rattle.tags.specs.declared.Kind.TheVariants.{Sectors, Groups}
use Rattle.tags.specs.declared.Range.{Range}
use Rattle.tags.specs.declared.Range.TheVariants.{Nothing, Start, Full}
use Rattle.made.proofs.Faults.{address_right, length_right, read_right, write_right, group_right, unlocked}
use Rattle.made.proofs.Links.{fresh_made, at_waits}
use Rattle.made.proofs.Taken.{Meeting, tagging, after, Acts, acting, begun, still, in_tran, read_as}
use Rattle.made.specs.Leading.{Leading}
use Rattle.made.specs.Made.{MadeLink}

module _ (c : Meeting) where
  abbrev size : ℕ
  size = size_of c.met.groups

  abbrev long : ℕ
  long = length_read c.link.length

  -- ---- class 0
  -- "CMD0 .. does the same" as power-on
  idle : Acts c 0
  unfolding acted_of
  idle column h = fresh_made c.spi c.met.groups c.met.locked

  -- 3: "address taken"
  addressed : Acts c 3
  unfolding tagging_of argument_fault obeyed awaited_by
  addressed =
      acting c 3 refl
      (λ column h p e.
      let old = still c column in
      record {
        address = address_right c.argument e;
        block = old.block;
        tags = old.tags;
        tagged = old.tagged;
        work = old.work;
        errors = old.errors;
      })

  -- 13 keeps tags, and a card in tran in tran
  status : Acts c 13
  unfolding tagging_of obeyed awaited_by
  status =
      acting c 13 refl
      (λ column h p e.
      record {
        address = c.made.address;
        block = c.made.block;
        tags = c.made.tags;
        tagged = λ some.
            (let there : column ≡ to.Tran = h.status refl ∙ ap column_of (c.made.tagged some).0 in
            (ap (λ (k : Column). state_at k c.link.state) there, (c.made.tagged some).1));
        work = at_waits c.met.groups c.link.length c.met.locked column c.link.state c.made.work;
        errors = c.made.errors;
      })

  -- ---- reading and writing
  lengthened : Acts c 16
  unfolding tagging_of argument_fault obeyed awaited_by
  lengthened =
      acting c 16 refl
      (λ column h p e.
      let in_range = length_right c.argument e in
      let old = still c to.Tran in
      rw (h.tran refl)
      (record {
        address = old.address;
        block = (omega arith, omega arith);
        tags = old.tags;
        tagged = old.tagged;
        work = tt;
        errors = old.errors;
      }))

  -- a command that the lock stops came to an unlocked card
  free : (index : ℕ) → passes_lock true index ≡ false → passes_lock c.met.locked index ≡ true → c.met.locked ≡ false
  free index = unlocked c.met.locked index

  read_one : Acts c 17
  unfolding class_of tagging_of argument_fault obeyed awaited_by
  read_one =
      acting c 17 refl
      (λ column h p e. begun c column (Data (OneOut c.argument)) (free 17 refl p, rw (read_as c) at (read_right c.argument long size e)))

  read_many : Acts c 18
  unfolding class_of tagging_of argument_fault obeyed awaited_by
  read_many =
      acting c 18 refl
      (λ column h p e.
      let in_range = read_right c.argument long size e in begun c column (Data (ManyOut c.argument)) (free 18 refl p, omega arith))

  write_one : Acts c 24
  unfolding class_of tagging_of argument_fault obeyed awaited_by
  write_one =
      acting c 24 refl
      (λ column h p e.
      let right = write_right c.argument long size e in
      begun c column (Rcv (OneIn c.argument)) (free 24 refl p, (right.1.0, (right.1.1, sym (read_as c) ∙ right.0))))

  write_many : Acts c 25
  unfolding class_of tagging_of argument_fault obeyed awaited_by
  write_many =
      acting c 25 refl
      (λ column h p e.
      let right = write_right c.argument long size e in
      let within : c.argument + 512 ≤ size = right.1.0 in
      begun c column (Rcv (ManyIn c.argument)) (free 25 refl p, (omega arith, (right.1.1, sym (read_as c) ∙ right.0))))

  request : Acts c 42
  unfolding tagging_of obeyed awaited_by
  request = acting c 42 refl (λ column h p e. begun c column (Rcv LockRequest) tt)

  -- ---- protection
  read_protection : Acts c 30
  unfolding class_of tagging_of argument_fault obeyed awaited_by
  read_protection =
      acting c 30 refl
      (λ column h p e.
      let in_range = group_right c.argument size e in
      begun c column (Data (Protection (c.argument / 8192))) (free 30 refl p, omega arith))

  -- ---- erase
  tag : (index : ℕ) → eqb index 0 ≡ false → passes_lock true index ≡ false → among index (16 ∷ 32 ∷ 33 ∷ 35 ∷ 36 ∷ []) ≡ true
      → after c index to.Tran (tagging c index).tags ≡ with_tags (with_state c.link Tran) (tagging c index).tags
      → MadeTags size (tagging c index).tags → Acts c index
  tag index other stop listed same right =
      acting c index other (λ column h p e. rw (h.tran listed, same) (in_tran c (tagging c index).tags (free index stop p) right))

  sector_start : Acts c 32
  unfolding class_of tagging_of obeyed awaited_by
  sector_start = tag 32 refl refl refl refl (made_start Sectors c.argument size)

  sector_end : Acts c 33
  unfolding class_of tagging_of obeyed awaited_by
  sector_end = tag 33 refl refl refl refl (made_end c.link.tags Sectors c.argument size)

  group_start : Acts c 35
  unfolding class_of tagging_of obeyed awaited_by
  group_start = tag 35 refl refl refl refl (made_start Groups c.argument size)

  group_end : Acts c 36
  unfolding class_of tagging_of obeyed awaited_by
  group_end = tag 36 refl refl refl refl (made_end c.link.tags Groups c.argument size)

  -- "CMD38 needs both (28) .., drops tags"
  erasing_drops : (range : Range) → (erase_tagging (tags_of range)).tags ≡ no_tags
  erasing_drops Nothing = refl
  erasing_drops (Start kind first) = refl
  erasing_drops (Full kind first last) = refl

  erase : Acts c 38
  unfolding tagging_of obeyed awaited_by
  erase = acting c 38 refl (λ column h p e. rw (erasing_drops c.link.tags.range) (still c column))

  -- ---- registers, which SPI sends as blocks
  read_csd : Acts c 9
  unfolding tagging_of argument_fault obeyed awaited_by
  read_csd = acting c 9 refl (λ column h p e. begun c column (Data Csd) tt)

  read_cid : Acts c 10
  unfolding tagging_of argument_fault obeyed awaited_by
  read_cid = acting c 10 refl (λ column h p e. begun c column (Data Cid) tt)

  -- ---- every other command drops tags and moves, and no more
  abbrev named : List ℕ
  named = 0 ∷ 3 ∷ 9 ∷ 10 ∷ 13 ∷ 16 ∷ 17 ∷ 18 ∷ 24 ∷ 25 ∷ 30 ∷ 32 ∷ 33 ∷ 35 ∷ 36 ∷ 38 ∷ 42 ∷ []

  module _ (index : ℕ) (other : among index named ≡ false) where
    apart : (k : ℕ) → among k named ≡ true → eqb index k ≡ false
    apart k listed =
        cases (eqb index k)
        (λ (t : eqb index k ≡ true).
        opposite (among index named) (subst (λ (i : ℕ). among i named ≡ true) (sym (eqb-true index k t)) listed) other)
        (λ t. t)

    plain : Acts c index
    unfolding tagging_of obeyed awaited_by
    plain =
        acting c index (apart 0 refl)
        (λ column h p e.
        simp (
          apart 3 refl,
          apart 9 refl,
          apart 10 refl,
          apart 13 refl,
          apart 16 refl,
          apart 17 refl,
          apart 18 refl,
          apart 24 refl,
          apart 25 refl,
          apart 30 refl,
          apart 32 refl,
          apart 33 refl,
          apart 35 refl,
          apart 36 refl,
          apart 38 refl,
          apart 42 refl,
        ) (still c column))

  every : (index : ℕ) → Acts c index
  every index =
      cases (among index named)
      (each (Acts c) named (
        idle,
        (
          addressed,
          (
            read_csd,
            (
              read_cid,
              (
                status,
                (
                  lengthened,
                  (read_one, (read_many, (write_one, (write_many, (read_protection, (sector_start, (sector_end, (group_start, (group_end, (erase, (request, tt))))))))))),
                ),
              ),
            ),
          ),
        ),
      ) index)
      (plain index)

pub acted_made : (spi : Bool) (link : Link) (met : Met) (index argument : ℕ) (column : Column) → MadeLink spi met.groups met.locked link
    → Leading index (column_of link.state) column → MadeLink spi met.groups met.locked (acted_of link met index argument column).link
acted_made spi link met index argument column made leads =
    every (record { link = link; met = met; argument = argument; spi = spi; made = made }) index column leads
