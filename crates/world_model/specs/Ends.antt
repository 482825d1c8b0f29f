-- Where the jobs end: an image that shows a valid world has the content of the state after those that landed.
use Rattle.std.specs.Prelude.{◌≡◌, ℕ, List, [], ◌∷◌, ◌++◌, map, Option, Some, None, option_map, refl}
use Rattle.std.specs.List.{range_with_len}
use Rattle.std.proofs.Common.{arith, ap, ◌∙◌, sym, subst, inl, inr, append_assoc, append-nil}
use Rattle.name_laws.specs.pm_model.Words.{Words}
use Rattle.name_laws.specs.layout_model.declared.lines.Draft.{Draft}
use Rattle.name_laws.specs.image_model.Content as shown
use Rattle.name_laws.specs.image_model.Content.{found}
use Rattle.name_laws.specs.image_model.Live.{entry_in, is_live, live_entries, valid_entries}
use Rattle.name_laws.specs.image_model.Volume.{Volume}
use Rattle.crash_spec.specs.posix_laws.posix_types.declared.tree.TreeEntry.{TreeEntry}
use Rattle.crash_spec.specs.posix_laws.posix_spec.Run.{after_call, Unfinished}
use Rattle.crash_spec.specs.posix_laws.posix_spec.State.{State}
use Rattle.crash_spec.specs.posix_laws.posix_spec.Tree.{tree}
use Rattle.crash_spec.specs.Strict.{StrictFrom}
use Rattle.crash_spec.specs.Sync.{file_bytes, IsPartOf, SyncFrom, with_bytes}
use Rattle.crash_spec.specs.list_laws.Filters.{filter-In, filter_map-In, In-filter, In-filter_map, In-map, In-range, map-In, range-In}
use Rattle.crash_spec.specs.list_laws.Members.{In}
use Rattle.crash_spec.specs.posix_laws.Entries.{IsTreeLike}
use Rattle.crash_spec.specs.posix_laws.Paths.{stands_at}
use Rattle.world_model.specs.Jobs.{unfinished_call, Job, live_claims, Valid}
use Rattle.world_model.specs.Promised.{AreWhole, LeftBy}
use Rattle.world_model.specs.Shown.{AreFilled, landed_pairs, shown_as, ShowsClaims}
use Rattle.world_model.specs.Stands.{entries_of}
use Rattle.world_model.specs.Beside.{bytes-after, with_bytes-whole}
use Rattle.world_model.specs.Contents.{found-same_members, found-Stands}
use Rattle.world_model.specs.JobLaws.{acted, Acts-job, Valid-dropped, Valid-landed}
use Rattle.world_model.specs.Latest.{OneOrderEach, OneOrderEach-Consecutive, SameMembers}
use Rattle.world_model.specs.TreeRules.{IsTreeLike-names}

-- The log of an image.

-- the live entries of an image are the live claims that it shows
pub SameMembers-shown : (v : Volume) (claims : List (ℕ × Draft)) (image : Words) → ShowsClaims v claims image → SameMembers (live_entries v image) (live_claims v claims)
SameMembers-shown v claims image shows = record { on = on; back = back } where
  on : (d : Draft) → In d (live_entries v image) → In d (live_claims v claims)
  on d is =
      let alive = filter-In (is_live v) (valid_entries v image) d is in
      let from = filter_map-In (entry_in v image) (range_with_len 0 v.geometry.log) d alive.0 in
      let slot = range-In 0 v.geometry.log from.0 from.1 in
      In-filter (is_live v) (map (λ (c : ℕ × Draft). c.1) claims) d
      (In-map (λ (c : ℕ × Draft). c.1) claims (from.0, d) ((shows from.0 d).1 (omega (arith, slot.1), from.2))) alive.1

  back : (d : Draft) → In d (live_claims v claims) → In d (live_entries v image)
  back d is =
      let alive = filter-In (is_live v) (map (λ (c : ℕ × Draft). c.1) claims) d is in
      let from = map-In (λ (c : ℕ × Draft). c.1) claims d alive.0 in
      let there = (shows from.0.0 from.0.1).0 from.1 in
      In-filter (is_live v) (valid_entries v image) d
      (In-filter_map (entry_in v image) (range_with_len 0 v.geometry.log) from.0.0 d (In-range 0 v.geometry.log from.0.0 (omega arith) (omega (arith, there.0))) (there.1 ∙ ap Some from.2)) alive.1

-- its content is that of the state
pub found-Valid : (v : Volume) (claims : List (ℕ × Draft)) (jobs : List Job) (image : Words) (numbers : List ℕ) (s : State) → Valid v claims jobs image numbers s → ShowsClaims v claims image
    → (path : List (List ℕ)) → found v (live_entries v image) image path ≡ option_map shown_as (stands_at s path)
found-Valid v claims jobs image numbers s valid shows path =
    found-same_members v (live_entries v image) (live_claims v claims) image (SameMembers-shown v claims image shows) one path
    ∙ found-Stands v (live_claims v claims) image numbers s valid.stands path where
      one : (ino : ℕ) → OneOrderEach (entries_of ino (live_claims v claims))
      one ino = OneOrderEach-Consecutive _ (entries_of ino (live_claims v claims)) (valid.stands.log.orders ino)

-- Where the jobs end.

-- the state after some of the jobs, of which the image has the content
pub record Ends (content : List (List ℕ) → Option shown.Node) (s : State) (jobs : List Job) : Type 0 where
  pub end : State
  pub like : IsTreeLike end.entries
  pub content_is : (path : List (List ℕ)) → content path ≡ option_map shown_as (stands_at end path)
  pub left : LeftBy s jobs (tree end)

landed_none : (jobs : List Job) → landed_pairs jobs [] ≡ []
landed_none [] = refl
landed_none (j ∷ jobs) = refl

filled_none : (v : Volume) (f : Words) (jobs : List Job) → AreFilled v f jobs []
filled_none v f [] = tt
filled_none v f (j ∷ jobs) = tt

pub ends : (v : Volume) (jobs : List Job) (landed : List (Option ℕ)) (claims : List (ℕ × Draft)) (image : Words) (numbers : List ℕ) (s : State)
    → Valid v claims jobs image numbers s → AreFilled v image jobs landed → ShowsClaims v (claims ++ landed_pairs jobs landed) image → Ends (found v (live_entries v image) image) s jobs
ends v [] landed claims image numbers s valid filled shows = record {
  end = s;
  like = IsTreeLike-names v numbers s valid.stands.sane valid.stands.names;
  content_is = found-Valid v claims [] image numbers s valid (subst (λ cs. ShowsClaims v cs image) (append-nil claims) shows);
  left = refl;
}
ends v (j ∷ jobs) [] claims image numbers s valid filled shows =
    let its = ends v jobs [] claims image numbers s (Valid-dropped v claims j jobs image numbers s valid) (filled_none v image jobs)
    (subst (λ ps. ShowsClaims v (claims ++ ps) image) (sym (landed_none jobs)) shows) in
    record { end = its.end; like = its.like; content_is = its.content_is; left = inr its.left }
ends v (j ∷ jobs) (None ∷ landed) claims image numbers s valid filled shows =
    let its = ends v jobs landed claims image numbers s (Valid-dropped v claims j jobs image numbers s valid) filled shows in
    record { end = its.end; like = its.like; content_is = its.content_is; left = inr its.left }
ends v (j ∷ jobs) (Some slot ∷ landed) claims image numbers s valid filled shows =
    let its = ends v jobs landed (claims ++ (slot, j.draft) ∷ []) image numbers (acted numbers s j) (Valid-landed v claims j jobs image numbers s slot valid filled.0) filled.1
    (subst (λ cs. ShowsClaims v cs image) (sym (append_assoc claims ((slot, j.draft) ∷ []) (landed_pairs jobs landed))) shows) in
    record {
      end = its.end;
      like = its.like;
      content_is = its.content_is;
      left = inl (acted numbers s j, Acts-job v (live_claims v claims) image numbers s j valid.stands valid.out.0, its.left);
    }

-- What the jobs leave is permitted.

-- in strict mode
pub Strict-LeftBy : (s : State) (jobs : List Job) (left : List TreeEntry) → AreWhole jobs → LeftBy s jobs left → StrictFrom s (map unfinished_call jobs) left
Strict-LeftBy s [] left whole is = is
Strict-LeftBy s (j ∷ jobs) left whole (inr rest) = inr (Strict-LeftBy s jobs left whole.1 rest)
Strict-LeftBy s (j ∷ jobs) left whole (inl (next, acts, rest)) =
    let same = acts.next_is ∙ (ap (with_bytes (after_call s (unfinished_call j)) acts.node) whole.0 ∙ with_bytes-whole s (unfinished_call j) acts.node j.whole acts.puts acts.there) in
    inl (subst (λ (x : State). StrictFrom x (map unfinished_call jobs) left) same (Strict-LeftBy next jobs left whole.1 rest))

-- and in sync mode
pub Sync-LeftBy : (s : State) (jobs : List Job) (left : List TreeEntry) → LeftBy s jobs left → SyncFrom s (map unfinished_call jobs) left
Sync-LeftBy s [] left is = is
Sync-LeftBy s (j ∷ jobs) left (inr rest) = inr (inr (Sync-LeftBy s jobs left rest))
Sync-LeftBy s (j ∷ jobs) left (inl (next, acts, rest)) =
    let put = acts.puts.put in
    let node : put.node ≡ acts.node = acts.puts.node_is in
    let after : file_bytes (after_call s (unfinished_call j)) acts.node ≡ j.whole = bytes-after s (unfinished_call j) acts.node j.whole acts.puts acts.there in
    inr (inl (
      next,
      record {
        put = put;
        bytes = j.found;
        is_write = acts.puts.is;
        part = subst (λ n. IsPartOf (file_bytes s n) (file_bytes (after_call s (unfinished_call j)) n) j.found) (sym node) (subst (λ bytes. IsPartOf (file_bytes s acts.node) bytes j.found) (sym after) acts.part);
        next_is = acts.next_is ∙ ap (λ n. with_bytes (after_call s (unfinished_call j)) n j.found) (sym node);
      },
      Sync-LeftBy next jobs left rest,
    ))

-- A call that lost its power before it acted is the last of the unfinished ones.

pub StrictFrom-lost : (s : State) (unfinished : List Unfinished) (c : Unfinished) (left : List TreeEntry) → StrictFrom s unfinished left → StrictFrom s (unfinished ++ c ∷ []) left
StrictFrom-lost s [] c left is = inr is
StrictFrom-lost s (d ∷ unfinished) c left (inl acted_it) = inl (StrictFrom-lost (after_call s d) unfinished c left acted_it)
StrictFrom-lost s (d ∷ unfinished) c left (inr dropped) = inr (StrictFrom-lost s unfinished c left dropped)

pub SyncFrom-lost : (s : State) (unfinished : List Unfinished) (c : Unfinished) (left : List TreeEntry) → SyncFrom s unfinished left → SyncFrom s (unfinished ++ c ∷ []) left
SyncFrom-lost s [] c left is = inr (inr is)
SyncFrom-lost s (d ∷ unfinished) c left (inl acted_it) = inl (SyncFrom-lost (after_call s d) unfinished c left acted_it)
SyncFrom-lost s (d ∷ unfinished) c left (inr (inl part)) = inr (inl (part.0, part.1, SyncFrom-lost part.0 unfinished c left part.2))
SyncFrom-lost s (d ∷ unfinished) c left (inr (inr dropped)) = inr (inr (SyncFrom-lost s unfinished c left dropped))
