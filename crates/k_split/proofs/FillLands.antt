-- Blocks that are zeroed before a plan is landed, or joins, that gives them to a file.
use Rattle.std.proofs.Common.{◌≡◌, ℕ, ◌+◌, ◌*◌, ◌/◌, ◌<◌, ◌≤◌, Bool, true, false, List, [], ◌++◌, length, get_or, Result, Ok, Err, refl, sym, ◌∙◌, ap, subst, arith, inl, inr, length-append}
use Rattle.std.specs.Prelude.{All}
use Rattle.std.proofs.lemmas.Bool.{cases_Bool, cases_lt}
use Rattle.std.proofs.lemmas.Bool.Decides.{nat_tests}
use Rattle.std.proofs.lemmas.List.{append-nil, get_or_append_left, get_or-append-add}
use Rattle.block_io.specs.pm_model.declared.Cell.{Cell}
use Rattle.block_io.specs.pm_model.declared.Cell.TheVariants.{Single}
use Rattle.block_io.specs.pm_model.CellLaws.{settled-single}
use Rattle.block_io.specs.pm_model.Cells.{cell, is_single, newest, Settles}
use Rattle.block_io.specs.pm_model.Frames.{KeepsSingle, SameLent}
use Rattle.block_io.specs.pm_model.ImageLaws.{Follows-then}
use Rattle.block_io.specs.pm_model.Images.{Follows, IsImage}
use Rattle.block_io.specs.pm_model.Powers.{is_on, Steps, Supply}
use Rattle.block_io.specs.pm_model.Words.{Words}
use Rattle.block_io.specs.layout_model.Journal.{is_journal_word, journaled}
use Rattle.block_io.specs.layout_model.Places.{commit_word, is_data_block, is_journaled_line}
use Rattle.block_io.specs.image_model.Placed.{AreSingle, block_at, IsOutside}
use Rattle.block_io.specs.image_model.Reading.{Reads}
use Rattle.block_io.specs.image_model.Volume.{Volume}
use Rattle.block_io.specs.Overwrites.{IsZeroed, MayZero, SameBeside}
use Rattle.block_io.specs.k_split_model.Zeros.{AreZeros, ReadZeros}
use Rattle.k_group_commit.specs.BesideLaws.{ChangesOthers, rests-free, RestsOn}
use Rattle.k_group_commit.specs.JoinLaws.{goes-written}
use Rattle.k_group_commit.specs.Joins.{Goes, IsWriteCut}
use Rattle.k_group_commit.specs.OpenLaws.{free-unused}
use Rattle.k_tables.specs.volume_laws.ImageLaws.{journal-outside}
use Rattle.k_tables.specs.volume_laws.Reading.{AreUnchained}
use Rattle.k_tables.specs.volume_laws.ReadingLaws.{reads-one}
use Rattle.k_tables.specs.volume_laws.SetLaws.{journaled-outside}
use Rattle.k_map_plans.specs.volume_change_laws.Switches.{unused-data}
use Rattle.k_map_plans.specs.volume_laws.Uses.{is_unused}
use Rattle.k_map_plans.specs.k_journal.declared.batches.Record.{Record}
use Rattle.k_map_plans.specs.k_plans.LandingLaws.{idle-image, idle-sound}
use Rattle.k_map_plans.specs.k_plans.LandingsPlans.{NewChain, blocks_of}
use Rattle.k_map_plans.specs.k_plans.Switching.{with_aside}
use Rattle.k_map_plans.specs.k_plans.View.{TablesView}
use Rattle.k_map_plans.specs.k_plans.WrittenLaws.{reads-beside, settles-then, took-later, unused-apart}
use Rattle.k_tables.specs.k_split_model.Stands.{IsOldOrNew}
use Rattle.k_split.specs.declared.faults.KFault.{KFault}
use Rattle.k_split.specs.Filling.{IsFillJoin, IsFillLanded, IsFillPlanned, IsFillPlanOn}
use Rattle.k_split.specs.Landed.{IsLandedJoin}
use Rattle.k_split.specs.MapChanges.{ChangesMaps, IsMapLanded}
use Rattle.k_split.specs.MapLanded.{IsMapPlanOn}
use Rattle.k_split.proofs.Beside.{others-committed, ready-others}
use Rattle.k_split.proofs.MapChanged.{inside-device, map-alone, unstaged-block}
use Rattle.k_split.proofs.Ready.{device-same}

-- ---- a word that is in no block of two lists

outside-left : (xs ys : List ℕ) (i : ℕ) → IsOutside (xs ++ ys) i → IsOutside xs i
outside-left xs ys i out k below at =
    out k (omega (arith, length-append xs ys)) (get_or_append_left xs ys 0 k below ∙ at)

outside-right : (xs ys : List ℕ) (i : ℕ) → IsOutside (xs ++ ys) i → IsOutside ys i
outside-right xs ys i out k below at =
    out (length xs + k) (omega (arith, length-append xs ys)) (get_or-append-add xs ys k 0 ∙ at)

-- ---- what is asked

module _ (fresh : List ℕ) (news : List NewChain) (v w : Volume) (b : List Record) (d : List Cell) (is : IsFillPlanned fresh news v w b d) where
  in_data : All (λ k. is_data_block v.geometry k ≡ true) fresh
  in_data k e below = unused-data v (get_or fresh k e) (is.unused k e below)

  unchained : AreUnchained v.geometry v fresh
  unchained = unused-apart v.geometry v d fresh is.planned.stands is.unused

  -- a word of the blocks is none of the journal, of journaled lines and of the new chains
  no-journal : (k i : ℕ) → k < length fresh → i / 512 ≡ block_at fresh k → is_journal_word i ≡ false
  no-journal k i below at = elim (cases_Bool (is_journal_word i)) [
    | inl is_in ↦ absurd (journal-outside v.geometry fresh i in_data is_in k below (sym at))
    | inr out ↦ out
  ]

  no-line : (k i : ℕ) → k < length fresh → i / 512 ≡ block_at fresh k → is_journaled_line v.geometry (i / 8) ≡ false
  no-line k i below at = elim (cases_Bool (is_journaled_line v.geometry (i / 8))) [
    | inl is_in ↦ absurd (journaled-outside v.geometry fresh i in_data is_in k below (sym at))
    | inr out ↦ out
  ]

  no-chain : (k i : ℕ) → k < length fresh → i / 512 ≡ block_at fresh k → IsOutside (blocks_of news) i
  no-chain k i below at j within same = is.apart k j below within (sym at ∙ sym same)

  -- ---- the blocks are zeroed

  module _ (m : List Cell) (size : length m ≡ length d) (lent : SameLent d m) (each : Follows (SameBeside fresh) d m)
      (others : (i : ℕ) → IsOutside fresh i → Settles (cell d i) (cell m i)) where
    same-reads : (image : Words) → IsImage m image → Reads v.geometry (journaled image) v
    same-reads image im =
        let from = each image im in
        reads-beside v.geometry v fresh from.0 image unchained from.2 (is.planned.stands.reads from.0 from.1.is_image)

    -- without power after it
    pub fill-lost : (p q : Supply) → is_on q ≡ false → IsFillLanded fresh news v w d m p q (Err KFault.PowerLost)
    fill-lost p q off = record {
      landed = record {
        changes = record {
          size = size;
          lent = lent;
          each_image = λ image im.
              let from = each image im in (
                from.0,
                from.1,
                record {
                  reads = inl (same-reads image im);
                  others = λ i journal line out. from.2 i (outside-left fresh (blocks_of news) i out);
                  sound = idle-sound v.geometry image (from.2 commit_word (journal-outside v.geometry fresh commit_word in_data refl)
                      ∙ idle-image d from.0 is.planned.stands.idle from.1.is_image);
                },
              );
          others = λ i journal line out. others i (outside-left fresh (blocks_of news) i out);
        };
        off = off;
      };
      zeros = λ image im reads. absurd (is.changed (reads-one v.geometry (journaled image) v w (same-reads image im) reads));
    }

    -- with power left the plan is still one, and it is landed
    module _ (zeroed : Follows (IsZeroed fresh) d m) (keeps : KeepsSingle d m) where
      module _ (e : List Cell) where
        both : ChangesMaps (blocks_of news) v w m e → ChangesMaps (fresh ++ blocks_of news) v w d e
        both changes = record {
          size = changes.size ∙ size;
          lent = λ i. changes.lent i ∙ lent i;
          each_image = λ image im.
              let from = Follows-then (SameBeside fresh) (IsOldOrNew v.geometry (blocks_of news) v w) d m e (λ i out. lent i ∙ out) each changes.each_image image im in (
                from.0,
                from.1,
                record {
                  reads = from.2.2.reads;
                  others = λ i journal line out.
                      from.2.2.others i journal line (outside-right fresh (blocks_of news) i out)
                      ∙ from.2.1 i (outside-left fresh (blocks_of news) i out);
                  sound = from.2.2.sound;
                },
              );
          others = λ i journal line out.
              settles-then (cell d i) (cell m i) (cell e i) (others i (outside-left fresh (blocks_of news) i out))
              (changes.others i journal line (outside-right fresh (blocks_of news) i out));
        }

        zeros-in : ChangesMaps (blocks_of news) v w m e → ReadZeros v.geometry w fresh e
        zeros-in changes image im reads k i below at =
            let from = changes.each_image image im in
            from.2.others i (no-journal k i below at) (no-line k i below at) (no-chain k i below at)
            ∙ (zeroed from.0 from.1.is_image).2.zero k i below at

        pub fill-landed : (n : ℕ) (p q r : Supply) (result : Result (Unit {0}) KFault) → Steps n p q → IsMapLanded (blocks_of news) v w m e q r result
            → IsFillLanded fresh news v w d e p r result
        fill-landed n p q r (Ok done) steps landed = record {
          landed = record {
            changes = both landed.changes;
            stands = landed.stands;
            singles = λ i single. landed.singles i (keeps i single);
            on = landed.on;
            took = took-later n p q r steps landed.took;
          };
          zeros = zeros-in landed.changes;
        }
        fill-landed n p q r (Err KFault.PowerLost) steps landed =
            record { landed = record { changes = both landed.changes; off = landed.off }; zeros = zeros-in landed.changes }
        fill-landed n p q r (Err (KFault.Refused errno)) steps landed = absurd landed
        fill-landed n p q r (Err (KFault.Room room)) steps landed = absurd landed
        fill-landed n p q r (Err KFault.NoMemory) steps landed = absurd landed

-- ---- a change that was planned

module _ (fresh : List ℕ) (t p : TablesView) (maps : List NewChain) (group b : List Record) (d : List Cell) (batched : Bool)
    (plan : IsFillPlanOn fresh t p maps group b d batched) where
  fresh-unused : (k : ℕ) → k < length fresh → is_unused t.volume (block_at fresh k) ≡ true
  fresh-unused k below = free-unused t (block_at fresh k) (plan.free k 0 below)

  all-unused : All (λ k. is_unused t.volume k ≡ true) fresh
  all-unused k e below = free-unused t (get_or fresh k e) (plan.free k e below)

  fresh-single : AreSingle fresh d
  fresh-single k i below at =
      let unused : is_unused t.volume (i / 512) ≡ true = subst (λ n. is_unused t.volume n ≡ true) (sym at) (fresh-unused k below) in
      plan.planned.ready.unstaged i (unused-data t.volume (i / 512) unused)
      (unstaged-block t p maps group b d batched plan.planned (i / 512) unused)

  -- and the blocks may be zeroed
  pub may-zero-on : MayZero fresh d
  may-zero-on = record {
    distinct = plan.distinct;
    in_device = λ k below.
        inside-device t.volume.geometry (block_at fresh k) (length d) (unused-data t.volume (block_at fresh k) (fresh-unused k below))
        plan.planned.ready.opened.are.stands.size;
    single = fresh-single;
  }

  -- where changes do not gather it is a plan for the volume of the device
  pub fill-alone : batched ≡ false → IsFillPlanned fresh maps t.volume p.volume b d
  fill-alone off = record {
    planned = map-alone t p maps group b d batched plan.planned off (with_aside [] p) refl;
    changed = plan.taken t.volume fresh-unused;
    unused = all-unused;
    distinct = plan.distinct;
    apart = plan.apart;
    single = fresh-single;
  }

  rests : RestsOn t.volume.geometry plan.planned.ready.committed plan.planned.ready.opened.news (IsOutside fresh)
  rests = rests-free plan.planned.ready.committed t group d plan.planned.ready.opened fresh plan.free

  -- ---- the blocks are zeroed

  module _ (m : List Cell) (size : length m ≡ length d) (lent : SameLent d m) (each : Follows (SameBeside fresh) d m)
      (others : (i : ℕ) → IsOutside fresh i → Settles (cell d i) (cell m i)) where
    pub goes-zeroed : Goes fresh plan.planned.ready.committed plan.planned.ready.committed d m
    goes-zeroed =
        goes-written t.volume.geometry plan.planned.ready.committed fresh d m (sym (device-same t group [] d batched plan.planned.ready))
        plan.planned.ready.opened.are.stands
        (unused-apart t.volume.geometry plan.planned.ready.committed d fresh plan.planned.ready.opened.are.stands
        (λ k e below. plan.planned.ready.opened.ahead.unused (get_or fresh k e) (plan.free k e below)))
        size lent each others

    -- the power went: the device stands where it stood
    pub zeroed-lost : (h : TablesView) (c : List Record) (y : Supply) → is_on y ≡ false
        → IsFillJoin fresh maps plan.planned.ready.committed t p h group b c d m y (Err KFault.PowerLost)
    zeroed-lost h c y off = (inl (inl goes-zeroed), off)

    -- with power left it is still a plan
    module _ (zeroed : Follows (IsZeroed fresh) d m) (keeps : KeepsSingle d m) where
      changes : ChangesOthers (IsOutside fresh) d m
      changes = record {
        size = size;
        idle = λ is.
            settled-single (cell d commit_word) (cell m commit_word) (others commit_word (rests.low commit_word (omega arith))) (ap is_single is)
            ∙ ap (λ c. Single (newest c)) is;
        singles = λ i stays. keeps i;
        comes = λ image im. let from = each image im in (from.0, from.1.is_image, from.2);
      }

      pub plan-zeroed : IsMapPlanOn t p maps group b m batched
      plan-zeroed = record {
        ready = ready-others t group [] d m batched plan.planned.ready (IsOutside fresh) rests changes
            (λ i in_data free. keeps i (plan.planned.ready.unstaged i in_data free));
        plan = plan.planned.plan;
        joining = plan.planned.joining;
        keeps = λ e singles. plan.planned.keeps e (λ i single. singles i (keeps i single));
      }

      pub zeroed-committed : plan-zeroed.ready.committed ≡ plan.planned.ready.committed
      unfolding plan-zeroed
      zeroed-committed = others-committed t group [] d m batched plan.planned.ready (IsOutside fresh) rests changes
          (λ i in_data free. keeps i (plan.planned.ready.unstaged i in_data free))

      -- ---- and it joined

      goes-both : (blocks : List ℕ) (v : Volume) (e : List Cell) → Goes blocks plan.planned.ready.committed v m e
          → Goes (fresh ++ blocks) plan.planned.ready.committed v d e
      goes-both blocks v e goes = record {
        size = goes.size ∙ size;
        lent = λ i. goes.lent i ∙ lent i;
        each_image = λ image im.
            let from = Follows-then (SameBeside fresh) (IsOldOrNew plan.planned.ready.committed.geometry blocks plan.planned.ready.committed v) d m e
            (λ i out. lent i ∙ out) each goes.each_image image im
            in (
              from.0,
              from.1,
              record {
                reads = from.2.2.reads;
                others = λ i journal line out.
                    from.2.2.others i journal line (outside-right fresh blocks i out)
                    ∙ from.2.1 i (outside-left fresh blocks i out);
                sound = from.2.2.sound;
              },
            );
        others = λ i journal line out.
            settles-then (cell d i) (cell m i) (cell e i) (others i (outside-left fresh blocks i out))
            (goes.others i journal line (outside-right fresh blocks i out));
      }

      fresh-word : (k i : ℕ) → k < length fresh → i / 512 ≡ block_at fresh k
          → (is_journal_word i ≡ false) × (is_journaled_line plan.planned.ready.committed.geometry (i / 8) ≡ false) × IsOutside (blocks_of maps) i
      fresh-word k i below at =
          let in_data : All (λ x. is_data_block t.volume.geometry x ≡ true) fresh = λ n e within. unused-data t.volume (get_or fresh n e) (all-unused n e within) in (
            none-of-two (is_journal_word i) (λ is_in. journal-outside t.volume.geometry fresh i in_data is_in k below (sym at)),
            subst (λ g. is_journaled_line g (i / 8) ≡ false) (sym (device-same t group [] d batched plan.planned.ready))
                (none-of-two (is_journaled_line t.volume.geometry (i / 8)) (λ is_in. journaled-outside t.volume.geometry fresh i in_data is_in k below (sym at))),
            λ j within same. plan.apart k j below within (sym at ∙ sym same),
          )
        where
          none-of-two : (x : Bool) → (x ≡ true → ⊥) → x ≡ false
          none-of-two true never = absurd (never refl)
          none-of-two false never = refl

      zeros-joined : (v : Volume) (e : List Cell) → Goes (blocks_of maps) plan.planned.ready.committed v m e → (image : Words) → IsImage e image
          → AreZeros fresh image
      zeros-joined v e goes image im k i below at =
          let from = goes.each_image image im in
          let word = fresh-word k i below at in
          from.2.others i word.0 word.1 word.2 ∙ (zeroed from.0 from.1.is_image).2.zero k i below at

      cut-both : (v : Volume) (e : List Cell) → IsWriteCut (blocks_of maps) plan.planned.ready.committed v m e
          → IsWriteCut (fresh ++ blocks_of maps) plan.planned.ready.committed v d e
      cut-both v e cut = record { goes = goes-both (blocks_of maps) v e cut.goes; reads = cut.reads }

      pub fill-joined : (h : TablesView) (c : List Record) (e : List Cell) (y : Supply) (r : Result (Unit {0}) KFault)
          → IsLandedJoin plan.planned.ready.committed t p h maps group b c m e y r → IsFillJoin fresh maps plan.planned.ready.committed t p h group b c d e y r
      fill-joined h c e y (Ok done) joined = elim joined.0 [
        | inl room ↦ (
          inl (
            room.0,
            record {
              opened = room.1.opened;
              waits = room.1.waits;
              laid = room.1.laid;
              goes = goes-both (blocks_of maps) plan.planned.ready.committed e room.1.goes;
              singles = λ i single. room.1.singles i (keeps i single);
            },
          ),
          zeros-joined plan.planned.ready.committed e room.1.goes,
          joined.1,
        )
        | inr was ↦ (
          inr (
            was.0,
            record {
              opened = was.1.opened;
              waits = was.1.waits;
              laid = was.1.laid;
              goes = goes-both (blocks_of maps) t.volume e was.1.goes;
              singles = λ i single. was.1.singles i (keeps i single);
            },
          ),
          zeros-joined t.volume e was.1.goes,
          joined.1,
        )
      ]
      fill-joined h c e y (Err KFault.PowerLost) joined = (
        elim joined.0 [
          | inl was ↦
              inl (inr (
                was.0,
                subst (λ bs. Goes bs plan.planned.ready.committed t.volume d e) (append-nil fresh) (goes-both [] t.volume e was.1),
              ))
          | inr cut ↦ elim cut [
            | inl room ↦
                inr (
                  inl (room.0, cut-both plan.planned.ready.committed e room.1),
                  zeros-joined plan.planned.ready.committed e room.1.goes,
                )
            | inr was ↦ inr (inr (was.0, cut-both t.volume e was.1), zeros-joined t.volume e was.1.goes)
          ]
        ],
        joined.1,
      )
      fill-joined h c e y (Err (KFault.Refused errno)) joined = absurd joined
      fill-joined h c e y (Err (KFault.Room room)) joined = absurd joined
      fill-joined h c e y (Err KFault.NoMemory) joined = absurd joined
