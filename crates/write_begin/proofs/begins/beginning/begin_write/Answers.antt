use Rattle.std.proofs.Common.{◌≡◌, ◌∙◌, true, length, ap, refl, subst}
use Rattle.write_plan.specs.layout_model.Places.{data_blocks}
use Rattle.write_plan.specs.declared.asks.asking.Asked.{Asked}
use Rattle.write_plan.specs.Asks.{IsAsked}
use Rattle.write_begin.specs.Stages.{with_parts}
use Rattle.write_begin.specs.Goes.{filled_by, filled_in, FitsTarget, KeepsMaps}
use Rattle.write_begin.proofs.BeginsAsked.{has_room}
use Rattle.write_begin.proofs.Begun.{answered_by, begun_by, ends_beside, goes_whole, own_is}
use Rattle.write_begin.proofs.Maps.{maps_any, same_maps}
use Rattle.write_begin.proofs.begins.beginning.begin_write.Goals as goal

pub ask-requires : goal.ask-requires
ask-requires c =
    let f = c.requires.found in
    c.kept_numbers_are_those_of_the_state.ensures.lines f.g c.args.k.now c.args.tables.now.tables (with_parts f.kept c.args.staging.now c.args.files.now) true f.n f.s f.stands

pub returns-in-Answered-clause-begun : goal.returns-in-Answered-clause-begun
returns-in-Answered-clause-begun c =
    let blocks : c.data_blocks-blocks.result ≡ data_blocks c.args.k.now.volume.geometry = c.data_blocks-blocks.ensures.number ∙ ap data_blocks c.geometry.ensures in
    let len = c.len.ensures in
    let asked : IsAsked c.args.mode c.args.tables.now.tables c.args.files.now c.args.who c.args.handle c.args.offset (length c.args.bytes.now) (data_blocks c.args.k.now.volume.geometry) c.args.needs (Asked.Answered c.in-Answered.outcome) =
    subst (λ n. IsAsked c.args.mode c.args.tables.now.tables c.args.files.now c.args.who c.args.handle c.args.offset (length c.args.bytes.now) n c.args.needs (Asked.Answered c.in-Answered.outcome)) blocks
    (subst (λ m. IsAsked c.args.mode c.args.tables.now.tables c.args.files.now c.args.who c.args.handle c.args.offset m c.data_blocks-blocks.result c.args.needs (Asked.Answered c.in-Answered.outcome)) len c.in-Answered.ensures) in
    (answered_by c.kept_numbers_are_those_of_the_state.ensures.sizes c.kept_numbers_are_those_of_the_state.ensures.room c.numbers_are_those_of_the_state.ensures.rows c.numbers_are_those_of_the_state.ensures.starts c.numbers_are_those_of_the_state.ensures.needs c.args.mode c.args.k.now c.args.tables.now.tables c.args.staging.now c.args.files.now c.args.who c.args.handle c.args.offset c.args.bytes.now c.args.needs c.in-Answered.outcome asked, refl, refl, refl)

pub returns-in-Full-clause-begun : goal.returns-in-Full-clause-begun
returns-in-Full-clause-begun c =
    let blocks : c.data_blocks-blocks.result ≡ data_blocks c.args.k.now.volume.geometry = c.data_blocks-blocks.ensures.number ∙ ap data_blocks c.geometry.ensures in
    let len = c.len.ensures in
    let asked : IsAsked c.args.mode c.args.tables.now.tables c.args.files.now c.args.who c.args.handle c.args.offset (length c.args.bytes.now) (data_blocks c.args.k.now.volume.geometry) c.args.needs (Asked.Full c.in-Full.need c.in-Full.left) =
    subst (λ n. IsAsked c.args.mode c.args.tables.now.tables c.args.files.now c.args.who c.args.handle c.args.offset (length c.args.bytes.now) n c.args.needs (Asked.Full c.in-Full.need c.in-Full.left)) blocks
    (subst (λ m. IsAsked c.args.mode c.args.tables.now.tables c.args.files.now c.args.who c.args.handle c.args.offset m c.data_blocks-blocks.result c.args.needs (Asked.Full c.in-Full.need c.in-Full.left)) len c.in-Full.ensures) in
    ends_beside c.kept_numbers_are_those_of_the_state.ensures.sizes c.kept_numbers_are_those_of_the_state.ensures.room c.numbers_are_those_of_the_state.ensures.rows c.numbers_are_those_of_the_state.ensures.starts c.numbers_are_those_of_the_state.ensures.needs c.args.mode c.args.k.now c.args.tables.now.tables c.args.staging.now c.args.files.now c.args.who c.args.handle c.args.offset c.args.bytes.now c.args.needs asked.0 c.in-Full.need c.in-Full.left c.requires.found asked.1 asked.2 asked.3

pub begin_target-requires-clause-goes : goal.begin_target-requires-clause-goes
begin_target-requires-clause-goes c =
    let blocks : c.data_blocks-blocks.result ≡ data_blocks c.args.k.now.volume.geometry = c.data_blocks-blocks.ensures.number ∙ ap data_blocks c.geometry.ensures in
    let len = c.len.ensures in
    let asked : IsAsked c.args.mode c.args.tables.now.tables c.args.files.now c.args.who c.args.handle c.args.offset (length c.args.bytes.now) (data_blocks c.args.k.now.volume.geometry) c.args.needs (Asked.Goes c.in-Goes.target) =
    subst (λ n. IsAsked c.args.mode c.args.tables.now.tables c.args.files.now c.args.who c.args.handle c.args.offset (length c.args.bytes.now) n c.args.needs (Asked.Goes c.in-Goes.target)) blocks
    (subst (λ m. IsAsked c.args.mode c.args.tables.now.tables c.args.files.now c.args.who c.args.handle c.args.offset m c.data_blocks-blocks.result c.args.needs (Asked.Goes c.in-Goes.target)) len c.in-Goes.ensures) in
    (goes_whole c.kept_numbers_are_those_of_the_state.ensures.sizes c.kept_numbers_are_those_of_the_state.ensures.room c.numbers_are_those_of_the_state.ensures.rows c.numbers_are_those_of_the_state.ensures.starts c.numbers_are_those_of_the_state.ensures.needs c.args.mode c.args.k.now c.args.tables.now.tables c.args.staging.now c.args.files.now c.args.who c.args.handle c.args.offset c.args.bytes.now c.args.needs asked.0 c.in-Goes.target asked.2 asked.1 c.requires.found)

pub begin_target-requires-clause-target : goal.begin_target-requires-clause-target
begin_target-requires-clause-target c =
    let blocks : c.data_blocks-blocks.result ≡ data_blocks c.args.k.now.volume.geometry = c.data_blocks-blocks.ensures.number ∙ ap data_blocks c.geometry.ensures in
    let len = c.len.ensures in
    let asked : IsAsked c.args.mode c.args.tables.now.tables c.args.files.now c.args.who c.args.handle c.args.offset (length c.args.bytes.now) (data_blocks c.args.k.now.volume.geometry) c.args.needs (Asked.Goes c.in-Goes.target) =
    subst (λ n. IsAsked c.args.mode c.args.tables.now.tables c.args.files.now c.args.who c.args.handle c.args.offset (length c.args.bytes.now) n c.args.needs (Asked.Goes c.in-Goes.target)) blocks
    (subst (λ m. IsAsked c.args.mode c.args.tables.now.tables c.args.files.now c.args.who c.args.handle c.args.offset m c.data_blocks-blocks.result c.args.needs (Asked.Goes c.in-Goes.target)) len c.in-Goes.ensures) in
    (let is = asked.2 in let fits : FitsTarget c.args.files.now c.in-Goes.target (length c.args.bytes.now) = record { some = is.some; most = is.most; fits = is.fits; size = is.size_is } in fits)

pub begin_target-requires-clause-room : goal.begin_target-requires-clause-room
begin_target-requires-clause-room c =
    let blocks : c.data_blocks-blocks.result ≡ data_blocks c.args.k.now.volume.geometry = c.data_blocks-blocks.ensures.number ∙ ap data_blocks c.geometry.ensures in
    let len = c.len.ensures in
    let asked : IsAsked c.args.mode c.args.tables.now.tables c.args.files.now c.args.who c.args.handle c.args.offset (length c.args.bytes.now) (data_blocks c.args.k.now.volume.geometry) c.args.needs (Asked.Goes c.in-Goes.target) =
    subst (λ n. IsAsked c.args.mode c.args.tables.now.tables c.args.files.now c.args.who c.args.handle c.args.offset (length c.args.bytes.now) n c.args.needs (Asked.Goes c.in-Goes.target)) blocks
    (subst (λ m. IsAsked c.args.mode c.args.tables.now.tables c.args.files.now c.args.who c.args.handle c.args.offset m c.data_blocks-blocks.result c.args.needs (Asked.Goes c.in-Goes.target)) len c.in-Goes.ensures) in
    (has_room c.args.mode c.args.tables.now.tables c.args.files.now c.args.who c.args.handle c.args.offset (length c.args.bytes.now) c.in-Goes.target asked.2 c.args.k.now.volume c.args.needs c.requires.ends asked.1)

pub returns-in-Answered-clause-keeps : goal.returns-in-Answered-clause-keeps
returns-in-Answered-clause-keeps c = λ on. maps_any c.args.k.now.volume c.args.k.now.volume c.args.files.now c.args.files.now (filled_by c.args.mode c.args.tables.now.tables c.args.who c.args.handle) (same_maps c.args.k.now.volume c.args.files.now)

pub returns-in-Full-clause-keeps : goal.returns-in-Full-clause-keeps
returns-in-Full-clause-keeps c = λ on. maps_any c.args.k.now.volume c.args.k.now.volume c.args.files.now c.args.files.now (filled_by c.args.mode c.args.tables.now.tables c.args.who c.args.handle) (same_maps c.args.k.now.volume c.args.files.now)

pub returns-in-Goes-clause-keeps : goal.returns-in-Goes-clause-keeps
returns-in-Goes-clause-keeps c =
    let blocks : c.data_blocks-blocks.result ≡ data_blocks c.args.k.now.volume.geometry = c.data_blocks-blocks.ensures.number ∙ ap data_blocks c.geometry.ensures in
    let len = c.len.ensures in
    let asked : IsAsked c.args.mode c.args.tables.now.tables c.args.files.now c.args.who c.args.handle c.args.offset (length c.args.bytes.now) (data_blocks c.args.k.now.volume.geometry) c.args.needs (Asked.Goes c.in-Goes.target) =
    subst (λ n. IsAsked c.args.mode c.args.tables.now.tables c.args.files.now c.args.who c.args.handle c.args.offset (length c.args.bytes.now) n c.args.needs (Asked.Goes c.in-Goes.target)) blocks
    (subst (λ m. IsAsked c.args.mode c.args.tables.now.tables c.args.files.now c.args.who c.args.handle c.args.offset m c.data_blocks-blocks.result c.args.needs (Asked.Goes c.in-Goes.target)) len c.in-Goes.ensures) in
    λ on.
    subst (λ n. KeepsMaps c.args.k.now.volume c.begin_target.new.k.volume c.args.files.now c.begin_target.new.files (filled_in c.args.mode n))
    (own_is c.args.tables.now.tables c.args.files.now c.args.who c.args.handle c.args.offset (length c.args.bytes.now) c.in-Goes.target asked.2) (c.begin_target.ensures.keeps on)

pub returns-in-Goes-clause-begun : goal.returns-in-Goes-clause-begun
returns-in-Goes-clause-begun c =
    let blocks : c.data_blocks-blocks.result ≡ data_blocks c.args.k.now.volume.geometry = c.data_blocks-blocks.ensures.number ∙ ap data_blocks c.geometry.ensures in
    let len = c.len.ensures in
    let asked : IsAsked c.args.mode c.args.tables.now.tables c.args.files.now c.args.who c.args.handle c.args.offset (length c.args.bytes.now) (data_blocks c.args.k.now.volume.geometry) c.args.needs (Asked.Goes c.in-Goes.target) =
    subst (λ n. IsAsked c.args.mode c.args.tables.now.tables c.args.files.now c.args.who c.args.handle c.args.offset (length c.args.bytes.now) n c.args.needs (Asked.Goes c.in-Goes.target)) blocks
    (subst (λ m. IsAsked c.args.mode c.args.tables.now.tables c.args.files.now c.args.who c.args.handle c.args.offset m c.data_blocks-blocks.result c.args.needs (Asked.Goes c.in-Goes.target)) len c.in-Goes.ensures) in
    begun_by c.kept_numbers_are_those_of_the_state.ensures.sizes c.kept_numbers_are_those_of_the_state.ensures.room c.numbers_are_those_of_the_state.ensures.rows c.numbers_are_those_of_the_state.ensures.starts c.numbers_are_those_of_the_state.ensures.needs c.args.mode c.args.k.now c.args.tables.now.tables c.args.staging.now c.args.files.now c.args.who c.args.handle c.args.offset c.args.bytes.now c.args.needs asked.0 c.in-Goes.target asked.2 asked.1 c.requires.mode c.begin_target.new.k c.begin_target.new.staging c.begin_target.new.files c.begin_target.new.power c.begin_target.result c.begin_target.ensures.paid
    c.begin_target.ensures.gone

pub returns-in-Answered-clause-took : goal.returns-in-Answered-clause-took
returns-in-Answered-clause-took c written = cc

pub returns-in-Full-clause-took : goal.returns-in-Full-clause-took
returns-in-Full-clause-took c written = cc

pub returns-in-Goes-clause-took : goal.returns-in-Goes-clause-took
returns-in-Goes-clause-took c = c.begin_target.ensures.took
