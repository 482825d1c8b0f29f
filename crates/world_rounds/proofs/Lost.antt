-- The parts of a World lose their power, and jobs end after it.
use Rattle.std.specs.Prelude.{◌≡◌, ◌≤◌, ◌<◌, ◌+◌, ◌*◌, ◌/◌, ◌%◌, ◌++◌, ℕ, zero, suc, Bool, true, false, not, cond, AllPairs, List, [], ◌∷◌, count_by, filter, length, slice_index, Some, vec_len, refl}
use Rattle.std.specs.Vec.{vec_capacity}
use Rattle.std.proofs.Common.{Global, Vec, arith, ap, ◌∙◌, sym, subst, inl, inr, length-append}
use Rattle.std.proofs.lemmas.List.Sums.{sum_by-cons}
use Rattle.world_parts.specs.pm_model.declared.Cell.{Cell}
use Rattle.world_parts.specs.pm_model.declared.Cell.TheVariants.{Single}
use Rattle.world_parts.specs.pm_model.Cells.{cell, is_lent, unmarked}
use Rattle.world_parts.specs.pm_model.Parts.{Part}
use Rattle.world_parts.specs.pm_model.Powers.{is_on, Supply}
use Rattle.world_parts.specs.layout_model.declared.lines.Draft.{Draft}
use Rattle.world_parts.specs.k_split_model.View.{View}
use Rattle.world_parts.specs.list_laws.Members.{In}
use Rattle.world_parts.specs.world_view_laws.oplog_entry.declared.claims.Full.{Full}
use Rattle.posix_types.specs.declared.call.Who.{Who}
use Rattle.posix_tables.specs.Open.{same_who}
use Rattle.world_parts.specs.in_flight.live_model.Jobs.{without}
use Rattle.world_parts.specs.in_flight.live_model.Standing.{AreOfTwoThreads, JobOut}
use Rattle.world_parts.specs.write_jobs.Jobs.{FilledView, HoldWords, loan_at}
use Rattle.world_parts.specs.world_view_laws.write_jobs.Loans.{AreApart, ComeBack}
use Rattle.world_parts.specs.world_view_laws.write_end.Blocks.{AreBlocksHome}
use Rattle.world_parts.proofs.world_view_laws_proofs.write_end_proofs.Apart.{has_loans_apart}
use Rattle.world_parts.proofs.world_view_laws_proofs.write_end_proofs.Jobs.{block_of, its_job, some_blocks, stood}
use Rattle.world_parts.proofs.world_view_laws_proofs.Crashing.{place_in}
use Rattle.world_parts.proofs.world_view_laws_proofs.Ending.{no_both}
use Rattle.world_parts.proofs.world_view_laws_proofs.Losing.{blocks_home, finished_lost, given_lost, given_view, homes_stay, one_less, others_finished, others_given}
use Rattle.world_parts.specs.world_view_laws.Begins.{IsFilledOut, OthersStay}
use Rattle.world_parts.specs.world_view_laws.declared.views.over.Over.{Over}
use Rattle.world_parts.specs.world_view_laws.Jobs.{GivesUp, LosesFinish, over_by}
use Rattle.world_parts.specs.world_view_laws.Views.{disk_of, IsLost, IsLostOut, IsWorldOver, kept_of, WorldView}
use Rattle.world_parts.specs.declared.parts.Parts.{Parts}
use Rattle.world_parts.specs.Seen.{blocks_out, IsKept, seen}

-- ---- counts of jobs whose blocks are out

module _ {X : Type 0} (f g : X → Bool) where
  -- no more where one test passes wherever the other does
  pub no_more : (xs : List X) → ((x : X) → In x xs → g x ≡ true → f x ≡ true) → count_by g xs ≤ count_by f xs
  no_more [] passes = omega arith
  no_more (x ∷ xs) passes =
      let rest = no_more xs (λ y at. passes y (inr at)) in
      omega (arith, rest, sum_by-cons (λ y. cond (g y) 1 0) x xs, sum_by-cons (λ y. cond (f y) 1 0) x xs, here (g x) refl) where
        here : (b : Bool) → g x ≡ b → cond (g x) 1 0 ≤ cond (f x) 1 0
        here true is = subst (λ (b : Bool). cond b 1 0 ≤ cond (f x) 1 0) (sym is) (subst (λ (b : Bool). 1 ≤ cond b 1 0) (sym (passes x (inl refl) is)) (omega arith))
        here false is = subst (λ (b : Bool). cond b 1 0 ≤ cond (f x) 1 0) (sym is) (omega arith)

  -- and fewer where one passes no more
  pub fewer : (xs : List X) → ((x : X) → In x xs → g x ≡ true → f x ≡ true) → (q : X) → In q xs → f q ≡ true → g q ≡ false → count_by g xs + 1 ≤ count_by f xs
  fewer [] passes q at was now = absurd at
  fewer (x ∷ xs) passes q (inl same) was now =
      let rest = no_more xs (λ y at. passes y (inr at)) in
      let one : cond (f x) 1 0 ≡ 1 = ap {B = ℕ} (λ b. cond b 1 0) (ap f same ∙ was) in
      let none : cond (g x) 1 0 ≡ 0 = ap {B = ℕ} (λ b. cond b 1 0) (ap g same ∙ now) in
      omega (arith, rest, one, none, sum_by-cons (λ y. cond (g y) 1 0) x xs, sum_by-cons (λ y. cond (f y) 1 0) x xs)
  fewer (x ∷ xs) passes q (inr at) was now =
      let rest = fewer xs (λ y there. passes y (inr there)) q at was now in
      let own = no_more (x ∷ []) (λ y there. elim there [ inl same ↦ passes y (inl same) | inr never ↦ absurd never ]) in
      omega (arith, rest, own, sum_by-cons (λ y. cond (g y) 1 0) x xs, sum_by-cons (λ y. cond (f y) 1 0) x xs, sum_by-cons (λ y. cond (g y) 1 0) x [], sum_by-cons (λ y. cond (f y) 1 0) x [])

-- of those that are left no more pass
pub no_more_left : {X : Type 0} (f keep : X → Bool) (xs : List X) → count_by f (filter keep xs) ≤ count_by f xs
no_more_left f keep [] = omega arith
no_more_left f keep (x ∷ xs) = by (keep x) (no_more_left f keep xs) where
  by : (b : Bool) → count_by f (filter keep xs) ≤ count_by f xs → count_by f (cond b (x ∷ filter keep xs) (filter keep xs)) ≤ count_by f (x ∷ xs)
  by true rest = omega (arith, rest, sum_by-cons (λ y. cond (f y) 1 0) x (filter keep xs), sum_by-cons (λ y. cond (f y) 1 0) x xs)
  by false rest = omega (arith, rest, sum_by-cons (λ y. cond (f y) 1 0) x xs)

-- ---- words that come back

not_lent : (c : Cell) (n : ℕ) → c ≡ Single n → is_lent (unmarked c) ≡ false
not_lent c n single = ap (λ (x : Cell). is_lent (unmarked x)) single

-- a word that is lent behind was lent before
pub lent_before : (loans : List Part) (words : List ℕ) (d e : List Cell) → HoldWords loans words → ComeBack loans d e → (i : ℕ) → is_lent (cell e i) ≡ true → is_lent (cell d i) ≡ true
lent_before loans words d e holds back i lent = ap is_lent (sym (back.beside i beside)) ∙ lent where
  beside : (n : ℕ) → n < length loans → i / 512 ≡ (loan_at loans n).place → ⊥
  beside n below place =
      no_both (is_lent (cell e i)) lent (ap is_lent (back.words n i below place) ∙ not_lent (cell (loan_at loans n).cells (i % 512)) _ (holds n (i % 512) below (omega arith))) _

-- a loan by its place
pub loan_in : (loans : List Part) (n : ℕ) → n < length loans → In (loan_at loans n) loans
loan_in [] n below = absurd (omega (arith, below))
loan_in (x ∷ loans) zero below = inl refl
loan_in (x ∷ loans) (suc n) below = inr (loan_in loans n (omega (arith, below)))

-- ---- a job ends after it

module _ (p : Parts) (kept : IsKept p) (off : p.lost ≡ true) (out : p.lines_out ≡ true) (q : JobOut) (job : FilledView) (is_out : IsFilledOut (seen p) q job) where
  gone : IsLostOut p.staging p.files (seen p)
  gone = subst (IsLost p.staging p.files (seen p)) out (kept.world.gone off)

  pub loans_out_now : (n i : ℕ) → n < length job.loans → i / 512 ≡ (loan_at job.loans n).place → is_lent (cell p.k.cells i) ≡ true
  loans_out_now n i below place =
      is_out.lent i (subst (λ b. In b q.blocks) (sym place) (subst (In (loan_at job.loans n).place) is_out.blocks (place_in job.loans (loan_at job.loans n) (loan_in job.loans n below))))

  pub loans_apart_now : AreApart job.loans
  loans_apart_now = (has_loans_apart gone.volume p.k.cells (kept_of (seen p) p.staging p.files) (seen p).start p.history.items (seen p).unfinished q job.loans gone.at is_out.there is_out.blocks).0

  pub callers_now : AllPairs AreOfTwoThreads p.pending.items
  callers_now = gone.at.callers

  -- its first block
  abbrev first : ℕ
  first = slice_index q.blocks 0

  first_there : In (512 * first / 512) q.blocks
  first_there =
      let its = its_job gone.volume p.k.cells (kept_of (seen p) p.staging p.files) (seen p).start p.history.items (seen p).unfinished gone.at q is_out.there in
      let stands = stood gone.volume p.k.cells (kept_of (seen p) p.staging p.files) (seen p).start p.history.items (seen p).unfinished gone.at its.job its.there in
      let some : 0 < q.draft.count = subst (λ (d : Draft). 0 < d.count) its.draft (some_blocks its.job.draft stands.draft) in
      let blocks = gone.at.blocks q is_out.there in
      subst (λ b. In b q.blocks) (omega arith) (block_of gone.volume q first blocks (0, some, blocks.each 0 some))

  pub room_for_claim : vec_len p.claims < vec_capacity p.claims
  room_for_claim =
      let one = fewer (λ (x : JobOut). is_lent (cell p.k.cells (512 * slice_index x.blocks 0))) (λ (x : JobOut). false) p.pending.items (λ x at never. no_both true refl (sym never) _) q is_out.there (is_out.lent (512 * first) first_there) refl in
      omega (arith, kept.room.claims_off off out, one)

  module _ (l : View) (holds : HoldWords job.loans job.words) (back : ComeBack job.loans p.k.cells l.cells) where
    home_now : AreBlocksHome q.blocks l.cells
    home_now = blocks_home p.k l p.tables.tables p.staging p.files (seen p) kept.world off out q job is_out holds back

    one_fewer : blocks_out l.cells p.pending.items + 1 ≤ blocks_out p.k.cells p.pending.items
    one_fewer =
        fewer (λ (x : JobOut). is_lent (cell p.k.cells (512 * slice_index x.blocks 0))) (λ (x : JobOut). is_lent (cell l.cells (512 * slice_index x.blocks 0))) p.pending.items
        (λ x at lent. lent_before job.loans job.words p.k.cells l.cells holds back (512 * slice_index x.blocks 0) lent) q is_out.there (is_out.lent (512 * first) first_there) (home_now (512 * first) first_there)

    -- it finished
    module _ (slot : ℕ) (claims : Vec (ℕ × Draft) Global) (claimed : claims.items ≡ p.claims.items ++ (slot, job.draft) ∷ []) (capacity : vec_capacity claims ≡ vec_capacity p.claims) where
      abbrev pub then_parts : Parts
      then_parts = record p { k = l; claims = claims }

      claims_are : p.claims.items ++ (slot, q.draft) ∷ [] ≡ claims.items
      claims_are = ap (λ (d : Draft). p.claims.items ++ (slot, d) ∷ []) (sym is_out.draft) ∙ sym claimed

      view_is : (let v : WorldView = record (seen p) { claims = p.claims.items ++ (slot, q.draft) ∷ []; acts = p.acts; disk = disk_of l p.tables.tables p.staging p.files; lost = true } in v ≡ seen then_parts)
      view_is = λ i. record (seen p) { claims = claims_are i; acts = p.acts; disk = disk_of l p.tables.tables p.staging p.files; lost = sym off i }

      len : vec_len claims ≡ vec_len p.claims + 1
      len = omega (arith, claims.ok.0, p.claims.ok.0, ap length claimed, length-append p.claims.items ((slot, job.draft) ∷ []))

      pub finish_kept : IsKept then_parts
      finish_kept = record {
        world = subst (IsWorldOver l p.tables.tables p.staging p.files) view_is (finished_lost p.k l p.tables.tables p.staging p.files (seen p) kept.world off out q job is_out holds back slot p.acts kept.world.counted.acts);
        counts = kept.counts;
        room = record {
          items = λ on. no_both p.lost off on _;
          claims_on = λ on. no_both p.lost off on _;
          claims_off = λ lost lines. omega (arith, kept.room.claims_off off out, one_fewer, len, capacity);
          empty = kept.room.empty;
          calls = kept.room.calls;
        };
      }

      pub finish_so : (power : Supply) → LosesFinish slot q (seen p) (seen then_parts) power
      finish_so power = record {
        off = inl off;
        new_is = sym view_is;
        first_one = λ on. no_both p.lost off on _;
        later_one = λ lost. refl;
        back = home_now;
        homes = homes_stay p.k l p.tables.tables p.staging p.files (seen p) kept.world off out q job is_out holds back;
        stay = subst (λ (v : WorldView). OthersStay (seen p) v q.who) view_is (others_finished p.k l p.tables.tables p.staging p.files (seen p) kept.world off out q job is_out holds back slot p.acts);
      }

    -- or it was given up
    module _ (full : Full) (over : Over) (over_is : over ≡ over_by p.over full) (pending : Vec JobOut Global) (left : pending.items ≡ without job.who p.pending.items) where
      abbrev pub given_parts : Parts
      given_parts = record p { k = l; pending = pending; over = Some over; given_up = p.given_up + 1 }

      pending_is : without q.who p.pending.items ≡ pending.items
      pending_is = ap (λ (w : Who). without w p.pending.items) (sym is_out.who) ∙ sym left

      given_view_is : given_view p.k l p.tables.tables p.staging p.files (seen p) kept.world off out q job is_out holds back full ≡ seen given_parts
      given_view_is = λ i. record (seen given_parts) { pending = pending_is i; over = Some (sym over_is i) }

      one_gone : length pending.items + 1 ≡ length p.pending.items
      one_gone = ap (λ (xs : List JobOut). length xs + 1) (sym pending_is) ∙ one_less p.k l p.tables.tables p.staging p.files (seen p) kept.world off out q job is_out holds back

      fewer_out : blocks_out l.cells pending.items ≤ blocks_out l.cells p.pending.items
      fewer_out =
          subst (λ (xs : List JobOut). blocks_out l.cells xs ≤ blocks_out l.cells p.pending.items) pending_is
          (no_more_left (λ (x : JobOut). is_lent (cell l.cells (512 * slice_index x.blocks 0))) (λ (x : JobOut). not (same_who x.who q.who)) p.pending.items)

      pub give_kept : IsKept given_parts
      give_kept = record {
        world = subst (IsWorldOver l p.tables.tables p.staging p.files) given_view_is (given_lost p.k l p.tables.tables p.staging p.files (seen p) kept.world off out q job is_out holds back full);
        counts = kept.counts;
        room = record {
          items = λ on. no_both p.lost off on _;
          claims_on = λ on. no_both p.lost off on _;
          claims_off = λ lost lines. omega (arith, kept.room.claims_off off out, one_fewer, fewer_out);
          empty = kept.room.empty;
          calls = omega (arith, kept.room.calls, one_gone);
        };
      }

      pub give_so : GivesUp full q (seen p) (seen given_parts)
      give_so = record {
        new_is = sym given_view_is;
        disk = λ on. no_both p.lost off on _;
        run_back = λ on. no_both p.lost off on _;
        back = home_now;
        homes = homes_stay p.k l p.tables.tables p.staging p.files (seen p) kept.world off out q job is_out holds back;
        stay = subst (λ (v : WorldView). OthersStay (seen p) v q.who) given_view_is (others_given p.k l p.tables.tables p.staging p.files (seen p) kept.world off out q job is_out holds back full);
      }

-- the power went just before
module _ (p : Parts) (awake : p.lost ≡ false) (slot : ℕ) (q : JobOut) (job : FilledView) where
  abbrev lost_parts : Parts
  lost_parts = record p { acts = p.acts + 1; lost = true }

  pub out_lost : IsFilledOut (seen p) q job → IsFilledOut (seen lost_parts) q job
  out_lost is = record { there = is.there; who = is.who; draft = is.draft; blocks = is.blocks; words = is.words; lent = is.lent }

  pub loses_first : (r : Parts) (power : Supply) → is_on power ≡ false → r.acts ≡ p.acts + 1 → LosesFinish slot q (seen lost_parts) (seen r) power → LosesFinish slot q (seen p) (seen r) power
  loses_first r power off acts loses = record {
    off = inr off;
    new_is = loses.new_is;
    first_one = λ on. acts;
    later_one = λ lost. no_both p.lost lost awake _;
    back = loses.back;
    homes = loses.homes;
    stay = (
      λ other one apart is. loses.stay.0 other one apart (record { there = is.there; who = is.who; draft = is.draft; blocks = is.blocks; words = is.words; lent = is.lent }),
      λ other one apart is. loses.stay.1 other one apart (record { there = is.there; who = is.who; draft = is.draft; blocks = is.blocks; words = is.words; lent = is.lent }),
    );
  }
