use Rattle.std.proofs.Common.{◌≡◌, List, ap, arith, subst, sym}
use Rattle.std.proofs.lemmas.Result.{err_from_is_err_and}
use Rattle.k_map_plans.specs.declared.map_plans.faults.MapFault.{MapFault}
use Rattle.std.specs.Prelude.{Err, nat_le, nat_lt, slice_index_or, vec_len}
use Rattle.block_counts.specs.Counts.{blocks_for}
use Rattle.layout_model.specs.declared.lines.Inode.{Inode}
use Rattle.k_plans.specs.image_model.Volume.{extents, free_inode}
use Rattle.k_relink.specs.extent_model.declared.extent_words.Extent.{Extent}
use Rattle.k_relink.specs.extent_model.Maps.{IsPart}
use Rattle.k_plans.specs.View.{TablesView, with_volume}
use Rattle.k_plans.specs.k_split_model.MapChangesChanges.{with_size}
use Rattle.k_map_plans.specs.Going.{HasGoneOver, kept_map, MayGoOver, MayKeep}
use Rattle.k_map_plans.proofs.Goings.{gone-aside}
use Rattle.k_map_plans.proofs.Refusals.{handed-on}
use Rattle.k_map_plans.proofs.Sizes.{cut-few, cut-sized, cut-written, empty-list, kept-sized, kept-written, size-keep, size-may, some-list}
use Rattle.k_map_plans.proofs.map_plans.sizing.cut_map.Goals as goal

pub keep_map-requires-clause-may : goal.keep_map-requires-clause-may
keep_map-requires-clause-may c =
    let t = c.args.tables.now in
    subst (λ (inodes : List Inode). MayKeep t c.args.ino (with_size c.args.size (slice_index_or inodes c.args.ino free_inode))) (sym c.inodes.ensures)
    (size-keep t c.args.ino c.args.size c.requires.own c.requires.file c.requires.idle c.requires.size)

pub go_over-requires-clause-may : goal.go_over-requires-clause-may
go_over-requires-clause-may c =
    let t = c.args.tables.now in
    let es : List Extent = extents t.volume c.args.ino in
    let was : c.in_ok-map.map ≡ es = c.in_ok-map.ensures.copy in
    let cut : IsPart (λ b. nat_lt b (blocks_for c.args.size)) es c.cut.new.self =
    subst (λ whole. IsPart (λ b. nat_lt b (blocks_for c.args.size)) whole c.cut.new.self) was
    (subst (λ from. IsPart (λ b. nat_lt b from) c.in_ok-map.map c.cut.new.self) c.blocks_for.ensures.count c.in_ok-freed.ensures.map)
    in
    let gone : IsPart (λ b. nat_le (blocks_for c.args.size) b) es c.in_ok-freed.freed.items =
    subst (λ whole. IsPart (λ b. nat_le (blocks_for c.args.size) b) whole c.in_ok-freed.freed.items) was
    (subst (λ from. IsPart (λ b. nat_le from b) c.in_ok-map.map c.in_ok-freed.freed.items) c.blocks_for.ensures.count c.in_ok-freed.ensures.displaced)
    in
    subst (λ (inodes : List Inode). MayGoOver t c.args.ino (with_size c.args.size (slice_index_or inodes c.args.ino free_inode)) c.cut.new.self c.deref.result.now)
    (sym c.inodes.ensures)
    (subst (MayGoOver t c.args.ino (with_size c.args.size (slice_index_or t.volume.inodes c.args.ino free_inode)) c.cut.new.self) (sym c.deref.ensures.value)
    (size-may t c.args.ino c.args.size c.cut.new.self c.in_ok-freed.freed.items c.in_ok-map.ensures.whole c.requires.idle c.requires.file c.requires.size
    c.in_ok-map.ensures.canonical cut gone))

pub returns-then-is_empty-clause-sized : goal.returns-then-is_empty-clause-sized
returns-then-is_empty-clause-sized c =
    let t = c.args.tables.now in
    let es : List Extent = extents t.volume c.args.ino in
    let was : c.in_ok-map.map ≡ es = c.in_ok-map.ensures.copy in
    let cut : IsPart (λ b. nat_lt b (blocks_for c.args.size)) es c.cut.new.self =
    subst (λ whole. IsPart (λ b. nat_lt b (blocks_for c.args.size)) whole c.cut.new.self) was
    (subst (λ from. IsPart (λ b. nat_lt b from) c.in_ok-map.map c.cut.new.self) c.blocks_for.ensures.count c.in_ok-freed.ensures.map)
    in
    let gone : IsPart (λ b. nat_le (blocks_for c.args.size) b) es c.in_ok-freed.freed.items =
    subst (λ whole. IsPart (λ b. nat_le (blocks_for c.args.size) b) whole c.in_ok-freed.freed.items) was
    (subst (λ from. IsPart (λ b. nat_le from b) c.in_ok-map.map c.in_ok-freed.freed.items) c.blocks_for.ensures.count c.in_ok-freed.ensures.displaced)
    in
    let kept : c.keep_map.new.tables ≡ with_volume (kept_map c.args.ino (with_size c.args.size (slice_index_or t.volume.inodes c.args.ino free_inode)) t.volume) t =
    subst (λ (inodes : List Inode). c.keep_map.new.tables ≡ with_volume (kept_map c.args.ino (with_size c.args.size (slice_index_or inodes c.args.ino free_inode)) t.volume) t)
    c.inodes.ensures c.in_ok-keep_map.ensures.kept
    in
    kept-sized t c.keep_map.new.tables.volume c.args.ino c.args.size c.cut.new.self c.in_ok-freed.freed.items c.in_ok-map.ensures.whole c.requires.file cut gone c.requires.own
    c.in_ok-map.ensures.canonical (empty-list c.in_ok-freed.freed.items (vec_len c.in_ok-freed.freed) c.is_empty.result (omega (arith, c.in_ok-freed.freed.ok.0)) c.is_empty.ensures c.if-is_empty.true) (ap (λ (x : TablesView). x.volume) kept)

pub returns-then-is_empty-clause-written : goal.returns-then-is_empty-clause-written
returns-then-is_empty-clause-written c =
    let t = c.args.tables.now in
    let es : List Extent = extents t.volume c.args.ino in
    let was : c.in_ok-map.map ≡ es = c.in_ok-map.ensures.copy in
    let cut : IsPart (λ b. nat_lt b (blocks_for c.args.size)) es c.cut.new.self =
    subst (λ whole. IsPart (λ b. nat_lt b (blocks_for c.args.size)) whole c.cut.new.self) was
    (subst (λ from. IsPart (λ b. nat_lt b from) c.in_ok-map.map c.cut.new.self) c.blocks_for.ensures.count c.in_ok-freed.ensures.map)
    in
    let gone : IsPart (λ b. nat_le (blocks_for c.args.size) b) es c.in_ok-freed.freed.items =
    subst (λ whole. IsPart (λ b. nat_le (blocks_for c.args.size) b) whole c.in_ok-freed.freed.items) was
    (subst (λ from. IsPart (λ b. nat_le from b) c.in_ok-map.map c.in_ok-freed.freed.items) c.blocks_for.ensures.count c.in_ok-freed.ensures.displaced)
    in
    let kept : c.keep_map.new.tables ≡ with_volume (kept_map c.args.ino (with_size c.args.size (slice_index_or t.volume.inodes c.args.ino free_inode)) t.volume) t =
    subst (λ (inodes : List Inode). c.keep_map.new.tables ≡ with_volume (kept_map c.args.ino (with_size c.args.size (slice_index_or inodes c.args.ino free_inode)) t.volume) t)
    c.inodes.ensures c.in_ok-keep_map.ensures.kept
    in
    kept-written t c.keep_map.new.tables.volume c.args.ino c.args.size c.cut.new.self c.in_ok-freed.freed.items c.in_ok-map.ensures.whole c.requires.file cut gone c.requires.own
    c.in_ok-map.ensures.canonical (empty-list c.in_ok-freed.freed.items (vec_len c.in_ok-freed.freed) c.is_empty.result (omega (arith, c.in_ok-freed.freed.ok.0)) c.is_empty.ensures c.if-is_empty.true) (ap (λ (x : TablesView). x.volume) kept)

pub returns-clause-sized : goal.returns-clause-sized
returns-clause-sized c =
    let t = c.args.tables.now in
    let es : List Extent = extents t.volume c.args.ino in
    let was : c.in_ok-map.map ≡ es = c.in_ok-map.ensures.copy in
    let cut : IsPart (λ b. nat_lt b (blocks_for c.args.size)) es c.cut.new.self =
    subst (λ whole. IsPart (λ b. nat_lt b (blocks_for c.args.size)) whole c.cut.new.self) was
    (subst (λ from. IsPart (λ b. nat_lt b from) c.in_ok-map.map c.cut.new.self) c.blocks_for.ensures.count c.in_ok-freed.ensures.map)
    in
    let gone : IsPart (λ b. nat_le (blocks_for c.args.size) b) es c.in_ok-freed.freed.items =
    subst (λ whole. IsPart (λ b. nat_le (blocks_for c.args.size) b) whole c.in_ok-freed.freed.items) was
    (subst (λ from. IsPart (λ b. nat_le from b) c.in_ok-map.map c.in_ok-freed.freed.items) c.blocks_for.ensures.count c.in_ok-freed.ensures.displaced)
    in
    let went : HasGoneOver c.args.ino (with_size c.args.size (slice_index_or t.volume.inodes c.args.ino free_inode)) c.cut.new.self t c.go_over.new.tables c.go_over.new.batch c.in_ok-new.new =
    subst (λ (inodes : List Inode). HasGoneOver c.args.ino (with_size c.args.size (slice_index_or inodes c.args.ino free_inode)) c.cut.new.self t c.go_over.new.tables c.go_over.new.batch c.in_ok-new.new)
    c.inodes.ensures c.in_ok-new.ensures.gone
    in
    cut-sized t c.go_over.new.tables.volume c.args.ino c.args.size c.cut.new.self c.in_ok-freed.freed.items c.in_ok-map.ensures.whole c.requires.file cut gone (some-list c.in_ok-freed.freed.items (vec_len c.in_ok-freed.freed) c.is_empty.result (omega (arith, c.in_ok-freed.freed.ok.0)) c.is_empty.ensures c.if-is_empty.false) c.in_ok-new.new
    went.lowest went.after went.chain_is

pub returns-clause-written : goal.returns-clause-written
returns-clause-written c =
    let t = c.args.tables.now in
    let es : List Extent = extents t.volume c.args.ino in
    let was : c.in_ok-map.map ≡ es = c.in_ok-map.ensures.copy in
    let cut : IsPart (λ b. nat_lt b (blocks_for c.args.size)) es c.cut.new.self =
    subst (λ whole. IsPart (λ b. nat_lt b (blocks_for c.args.size)) whole c.cut.new.self) was
    (subst (λ from. IsPart (λ b. nat_lt b from) c.in_ok-map.map c.cut.new.self) c.blocks_for.ensures.count c.in_ok-freed.ensures.map)
    in
    let gone : IsPart (λ b. nat_le (blocks_for c.args.size) b) es c.in_ok-freed.freed.items =
    subst (λ whole. IsPart (λ b. nat_le (blocks_for c.args.size) b) whole c.in_ok-freed.freed.items) was
    (subst (λ from. IsPart (λ b. nat_le from b) c.in_ok-map.map c.in_ok-freed.freed.items) c.blocks_for.ensures.count c.in_ok-freed.ensures.displaced)
    in
    let went : HasGoneOver c.args.ino (with_size c.args.size (slice_index_or t.volume.inodes c.args.ino free_inode)) c.cut.new.self t c.go_over.new.tables c.go_over.new.batch c.in_ok-new.new =
    subst (λ (inodes : List Inode). HasGoneOver c.args.ino (with_size c.args.size (slice_index_or inodes c.args.ino free_inode)) c.cut.new.self t c.go_over.new.tables c.go_over.new.batch c.in_ok-new.new)
    c.inodes.ensures c.in_ok-new.ensures.gone
    in
    cut-written t c.go_over.new.tables.volume c.args.ino c.args.size c.cut.new.self c.in_ok-freed.freed.items c.in_ok-map.ensures.whole c.requires.file cut gone (some-list c.in_ok-freed.freed.items (vec_len c.in_ok-freed.freed) c.is_empty.result (omega (arith, c.in_ok-freed.freed.ok.0)) c.is_empty.ensures c.if-is_empty.false) c.in_ok-new.new
    went.lowest went.after went.chain_is

pub returns-clause-aside : goal.returns-clause-aside
returns-clause-aside c =
    let t = c.args.tables.now in
    let went : HasGoneOver c.args.ino (with_size c.args.size (slice_index_or t.volume.inodes c.args.ino free_inode)) c.cut.new.self t c.go_over.new.tables c.go_over.new.batch c.in_ok-new.new =
    subst (λ (inodes : List Inode). HasGoneOver c.args.ino (with_size c.args.size (slice_index_or inodes c.args.ino free_inode)) c.cut.new.self t c.go_over.new.tables c.go_over.new.batch c.in_ok-new.new)
    c.inodes.ensures c.in_ok-new.ensures.gone
    in
    gone-aside t c.go_over.new.tables c.args.ino (with_size c.args.size (slice_index_or t.volume.inodes c.args.ino free_inode)) c.cut.new.self c.go_over.new.batch
    c.in_ok-new.new c.requires.idle c.in_ok-map.ensures.back c.requires.file.below went

-- where it is refused, going over was
went_few : (c : goal.After-drop-map-inside-in_err-new) → c.from_residual-in_err-new.result ≡ Err MapFault.Few → c.go_over.result ≡ Err MapFault.Few
went_few c few =
    handed-on c.from_residual-in_err-new.result c.go_over.result c.in_err-new.field-0.0
    (err_from_is_err_and c.from_residual-in_err-new.result c.from_residual-in_err-new.ensures.1) c.in_err-new.was few

pub returns-in_err-new-clause-few : goal.returns-in_err-new-clause-few
returns-in_err-new-clause-few c few =
    let t = c.args.tables.now in
    let es : List Extent = extents t.volume c.args.ino in
    let was : c.in_ok-map.map ≡ es = c.in_ok-map.ensures.copy in
    let cut : IsPart (λ b. nat_lt b (blocks_for c.args.size)) es c.cut.new.self =
    subst (λ whole. IsPart (λ b. nat_lt b (blocks_for c.args.size)) whole c.cut.new.self) was
    (subst (λ from. IsPart (λ b. nat_lt b from) c.in_ok-map.map c.cut.new.self) c.blocks_for.ensures.count c.in_ok-freed.ensures.map)
    in
    let gone : IsPart (λ b. nat_le (blocks_for c.args.size) b) es c.in_ok-freed.freed.items =
    subst (λ whole. IsPart (λ b. nat_le (blocks_for c.args.size) b) whole c.in_ok-freed.freed.items) was
    (subst (λ from. IsPart (λ b. nat_le from b) c.in_ok-map.map c.in_ok-freed.freed.items) c.blocks_for.ensures.count c.in_ok-freed.ensures.displaced)
    in
    cut-few t c.args.ino c.args.size c.cut.new.self c.in_ok-freed.freed.items c.in_ok-map.ensures.whole c.requires.file c.in_ok-map.ensures.canonical cut gone
    (some-list c.in_ok-freed.freed.items (vec_len c.in_ok-freed.freed) c.is_empty.result (omega (arith, c.in_ok-freed.freed.ok.0)) c.is_empty.ensures c.if-is_empty.false)
    (c.go_over.ensures.few (went_few c few))
