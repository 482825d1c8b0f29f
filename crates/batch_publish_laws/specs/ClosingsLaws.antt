-- What publishes the length of a file, as the whole of a call.
use Rattle.batch_laws.specs.IdleLaws.{lengths_are_kept}
use Rattle.batch_laws.specs.Ready.{GoesReady}
use Rattle.batch_publish_laws.specs.Changes.{LeavesBatch}
use Rattle.batch_publish_laws.specs.ChangesLaws.{batch_goes_on}
use Rattle.batch_publish_laws.specs.CallsLaws.{quietly, size_leaves_batch}
use Rattle.batch_publish_laws.specs.Closings.{ClosePublishes, FsyncPublishes, PublishingLeavesBatch}
use Rattle.batch_publish_laws.specs.CommittedLaws.{batch_is_committed}
use Rattle.batch_publish_laws.specs.MovesLaws.{not_cut_behind, not_shorter, publish_leaves_batch, publishing_behind}
use Rattle.batch_publish_laws.specs.StillsLaws.{gathered_still, still_leaves}
use Rattle.live_model.specs.commute_laws.posix_types.declared.call.Call.{Call}
use Rattle.live_model.specs.commute_laws.posix_types.declared.call.Who.{Who}
use Rattle.live_model.specs.commute_laws.posix_types.declared.handle.Handle.{Handle}
use Rattle.live_model.specs.commute_laws.posix_types.declared.item.Item.{Item}
use Rattle.live_model.specs.crash_spec.Posix.{is_fsync, is_ok, syncs}
use Rattle.live_model.specs.crash_spec.Values.{value_put}
use Rattle.live_model.specs.file_table.Files.{Files, size_in}
use Rattle.live_model.specs.image_model.Volume.{inode}
use Rattle.live_model.specs.k_split_model.View.{View}
use Rattle.live_model.specs.layout_model.Places.{Geometry}
use Rattle.live_model.specs.posix_laws.Lasting.{step_lasts}
use Rattle.live_model.specs.posix_laws.Shortens.{shortens}
use Rattle.live_model.specs.posix_spec.FileRows.{close_rows, file_number, fsync_rows}
use Rattle.live_model.specs.posix_spec.Put.{put_by}
use Rattle.live_model.specs.posix_spec.Run.{after_call, begun, run, run-append}
use Rattle.live_model.specs.posix_spec.State.{State, alone, swept, with_published}
use Rattle.live_model.specs.posix_spec.Step.{close_done, fsync_done, stepped}
use Rattle.live_model.specs.posix_tables.Names.{is_named}
use Rattle.live_model.specs.posix_tables.Nodes.{bytes_of, node_at, published_node, published_of}
use Rattle.live_model.specs.posix_tables.Open.{closed, is_open}
use Rattle.live_model.specs.posix_tables.Outcomes.{first}
use Rattle.live_model.specs.posix_tables.declared.nodes.Node.{Node}
use Rattle.live_model.specs.world_model.Stands.{number}
use Rattle.live_model.specs.world_step_laws.RemoveCalls.{swept-named, swept-open}
use Rattle.std.proofs.Common.{ap, inl, inr, subst, sym, ◌∙◌}
use Rattle.std.proofs.lemmas.List.{set-get_or}
use Rattle.std.specs.Prelude.{List, None, [], false, length, refl, slice_set, true, ℕ, ◌&&◌, ◌++◌, ◌∷◌, ◌≡◌, ◌⊎◌}

-- ---- a length that is published already

published_itself : (x : Node) → published_of x ≡ length (bytes_of x) → published_node x ≡ x
published_itself Node.Gone is = refl
published_itself Node.Directory is = refl
published_itself (Node.File file) is = ap (λ n. Node.File (record { bytes = file.bytes; published = n })) (sym is)

published_still : (s : State) (n : ℕ) → published_of (node_at s.nodes n) ≡ length (bytes_of (node_at s.nodes n)) → (with_published s n).nodes ≡ s.nodes
unfolding with_published
published_still s n is = ap (slice_set s.nodes n) (published_itself (node_at s.nodes n) is) ∙ set-get_or s.nodes n Node.Gone

all_published : (g : Geometry) (k : View) (files : Files) (count : ℕ) (numbers : List ℕ) (start : State) (history : List Item) (item : Item) → (ready : GoesReady g k files count numbers start history)
    → (after_call (run start history) (begun item)).nodes ≡ (run start history).nodes → (after_call (run start history) (begun item)).entries ≡ (run start history).entries
    → LeavesBatch g k k files files count numbers start history (item ∷ []) ready.going
all_published g k files count numbers start history item ready nodes entries =
    still_leaves g k k files count numbers start history (item ∷ []) [] ready
    (gathered_still g k k files count numbers start history [] k.volume ready
    (record { volume = refl; committed = refl; cells = refl; order = ready.going.order; batched = ready.going.batched; on = ready.going.on })
    (record { committed = λ b is. absurd is; batch = λ b is. absurd is }))
    (ap (λ (t : State). t.nodes) here ∙ nodes) (ap (λ (t : State). t.entries) here ∙ entries) (ap (λ (t : State). t.shape) here ∙ (step_lasts s item.who item.call).shape)
    (publishing_behind g k files count numbers start history item ready)
    (not_cut_behind start ready.going.front ready.going.later item (subst (λ (h : List Item). (n i : ℕ) → shortens (run start h) (begun item) n i ≡ false) ready.going.history_is none))
  where
    s : State
    s = run start history

    here : run start (history ++ item ∷ []) ≡ after_call s (begun item)
    here = run-append start history item

    none : (n i : ℕ) → shortens s (begun item) n i ≡ false
    none n i = not_shorter (node_at s.nodes n) (node_at (after_call s (begun item)).nodes n) i (ap (λ (xs : List Node). length (bytes_of (node_at xs n))) nodes)

pub publishing_leaves_batch : PublishingLeavesBatch
publishing_leaves_batch g k l files e count numbers start history item w ino ready (inl relinked) only =
    publish_leaves_batch g k l files e count numbers start history item w ino relinked.0 ready relinked.1 only.nodes only.entries
publishing_leaves_batch g k l files e count numbers start history item w ino ready (inr (inl sizes)) only =
    size_leaves_batch g k l files e count numbers start history item sizes.0 w ino ready sizes.1 sizes.2 only.nodes only.entries
publishing_leaves_batch g k l files e count numbers start history item w ino ready (inr (inr same)) only =
    subst (λ (x : View). LeavesBatch g k x files e count numbers start history (item ∷ []) ready.going) (sym same.2)
    (subst (λ (x : Files). LeavesBatch g k k files x count numbers start history (item ∷ []) ready.going) (sym same.3)
    (all_published g k files count numbers start history item ready (only.nodes ∙ published_still s (number numbers ino) (kept.0 ∙ (same.1 ∙ sym kept.1))) only.entries))
  where
    s : State
    s = run start history

    kept : (published_of (node_at (run start history).nodes (number numbers ino)) ≡ (inode k.volume ino).size) × (length (bytes_of (node_at (run start history).nodes (number numbers ino))) ≡ size_in files ino)
    kept = lengths_are_kept g k files count numbers start history ino ready same.0

-- ---- close

closed_only : (s : State) (who : Who) (h : Handle) → first (close_rows s.tables who h) ≡ None
    → (is_named s.entries (file_number s.tables who h) ≡ true) ⊎ (is_open (closed s.tables who h) (file_number s.tables who h) ≡ true)
    → ((after_call s (who, Call.Close h)).nodes ≡ (with_published s (file_number s.tables who h)).nodes) × ((after_call s (who, Call.Close h)).entries ≡ s.entries)
unfolding close_done with_published
closed_only s who h none stays = (
  ap (λ o. (stepped s o (close_done alone s who h)).state.nodes) none ∙ ap (λ (x : State). x.nodes) (kept stays),
  ap (λ o. (stepped s o (close_done alone s who h)).state.entries) none ∙ ap (λ (x : State). x.entries) (kept stays),
) where
  kept : (is_named s.entries (file_number s.tables who h) ≡ true) ⊎ (is_open (closed s.tables who h) (file_number s.tables who h) ≡ true)
      → swept alone (record (with_published s (file_number s.tables who h)) { tables = closed s.tables who h }) (file_number s.tables who h)
      ≡ record (with_published s (file_number s.tables who h)) { tables = closed s.tables who h }
  kept (inl named) = swept-named (record (with_published s (file_number s.tables who h)) { tables = closed s.tables who h }) (file_number s.tables who h) named
  kept (inr open_still) = swept-open (record (with_published s (file_number s.tables who h)) { tables = closed s.tables who h }) (file_number s.tables who h) open_still

close_puts : (s : State) (who : Who) (h : Handle) (n i : ℕ) → value_put s (who, Call.Close h) n i ≡ None
unfolding put_by
close_puts s who h n i = refl

close_no_sync : (item : Item) (h : Handle) → item.call ≡ Call.Close h → syncs item ≡ false
close_no_sync item h is = ap (λ c. is_fsync c && is_ok item.reply) is

pub close_publishes : ClosePublishes
close_publishes g k l files e count numbers start history item h w ino ready call_is none file_is stays publishes =
    batch_goes_on g k l files e count numbers start history (item ∷ []) ready
    (publishing_leaves_batch g k l files e count numbers start history item w ino ready publishes
    (record {
      nodes = ap (λ c. (after_call s (item.who, c)).nodes) call_is ∙ (behind.0 ∙ ap (λ n. (with_published s n).nodes) (sym file_is));
      entries = ap (λ c. (after_call s (item.who, c)).entries) call_is ∙ behind.1;
    }))
    (λ image is. quietly start ready.going.front ready.going.later item (ready.going.world image is).medium.state (close_no_sync item h call_is)
    (λ n i. ap (λ c. value_put (run start (ready.going.front ++ ready.going.later)) (item.who, c) n i) call_is ∙ close_puts (run start (ready.going.front ++ ready.going.later)) item.who h n i))
  where
    s : State
    s = run start history

    behind : ((after_call s (item.who, Call.Close h)).nodes ≡ (with_published s (file_number s.tables item.who h)).nodes) × ((after_call s (item.who, Call.Close h)).entries ≡ s.entries)
    behind = closed_only s item.who h none (subst (λ n. (is_named s.entries n ≡ true) ⊎ (is_open (closed s.tables item.who h) n ≡ true)) file_is stays)

-- ---- fsync

synced_only : (s : State) (who : Who) (h : Handle) → first (fsync_rows s.tables who h) ≡ None
    → ((after_call s (who, Call.Fsync h)).nodes ≡ (with_published s (file_number s.tables who h)).nodes) × ((after_call s (who, Call.Fsync h)).entries ≡ s.entries)
unfolding fsync_done with_published
synced_only s who h none = (ap (λ o. (stepped s o (fsync_done s who h)).state.nodes) none, ap (λ o. (stepped s o (fsync_done s who h)).state.entries) none)

pub fsync_publishes : FsyncPublishes
fsync_publishes g k l m files e count numbers start history item h w ino ready call_is none file_is publishes committed =
    batch_is_committed g k l m files e count numbers start history (item ∷ []) ready
    (publishing_leaves_batch g k l files e count numbers start history item w ino ready publishes
    (record {
      nodes = ap (λ c. (after_call s (item.who, c)).nodes) call_is ∙ (behind.0 ∙ ap (λ n. (with_published s n).nodes) (sym file_is));
      entries = ap (λ c. (after_call s (item.who, c)).entries) call_is ∙ behind.1;
    }))
    committed
  where
    s : State
    s = run start history

    behind : ((after_call s (item.who, Call.Fsync h)).nodes ≡ (with_published s (file_number s.tables item.who h)).nodes) × ((after_call s (item.who, Call.Fsync h)).entries ≡ s.entries)
    behind = synced_only s item.who h none
