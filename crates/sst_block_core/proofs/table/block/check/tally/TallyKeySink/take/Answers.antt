use Rattle.std.proofs.Common.{◌++◌, ◌∷◌, [], ◌≡◌, ◌∙◌, ◌%◌, ◌<◌, ℕ, List, arith, length, None, Some, refl, ap, sym, subst}
use Rattle.sst_block_core.specs.Passes.{TallyState, HasTallied, joined_key, noted_late, with_bucket}
use Rattle.sst_block_core.proofs.Check.BucketTallies.{tally_push}
use Rattle.sst_block_core.proofs.table.block.check.tally.TallyKeySink.take.Goals as goal

pub returns-in-Some : goal.returns-in-Some
returns-in-Some g c = λ r b items x pos taken is key.
    let kind = g.Item.BlockItem.kind in
    let hash = g.H.BlockHash.hash64 in
    let inside = c.self.inside in
    let heads = c.heads_with-heads in
    let prefix = c.prefix_at-prefix in
    let body = c.args.body.now in
    let waits : inside.waiting ≡ None = ap (λ (t : TallyState). t.waiting) (c.self.view_is ∙ c.note_waiting.ensures) in
    let table = noted_late hash inside.buckets inside.waiting (joined_key inside.joined) in
    let same : table ≡ inside.buckets = λ i. noted_late hash inside.buckets (waits i) (joined_key inside.joined) in
    let old : TallyState =
    record { table = table; heads = inside.heads; has_memory = inside.has_memory; prefix = inside.prefix; joined = inside.joined; waiting = inside.waiting } in
    let new : TallyState =
    record {
      table = with_bucket table c.in-Some.hash c.last_number-interval_number.result;
      heads = heads.result;
      has_memory = inside.has_memory;
      prefix = prefix.result;
      joined = inside.joined;
      waiting = None;
    } in
    let before : HasTallied kind hash r b body old items =
    subst (λ t. HasTallied kind hash r b body t items) (sym c.note_waiting.ensures ∙ sym c.self.view_is) taken in
    let some : 0 < length table = subst (λ (t : List ℕ). 0 < length t) (sym same) c.self.invariant.1 in
    subst (λ t. HasTallied kind hash r b body t (items ++ x ∷ [])) (sym c.note.ensures)
    (tally_push kind hash r b pos body old new items x (length items % r) c.last_number-interval_number.result c.in-Some.hash _ before some refl
    (λ z. heads.ensures.head (is.1 z)) (λ p. heads.ensures.rest (λ h. let z = is.0 h in omega (arith, p, z))) c.last_number-interval_number.ensures key refl
    (λ hashed _. c.in-Some.ensures hashed) prefix.ensures.hash (λ begun. begun) refl)

pub returns-in-Some-join : goal.returns-in-Some-join
returns-in-Some-join g c = λ r b items x pos taken is key.
    let kind = g.Item.BlockItem.kind in
    let hash = g.H.BlockHash.hash64 in
    let inside = c.self.inside in
    let heads = c.heads_with-heads in
    let prefix = c.prefix_at-prefix in
    let number = c.last_number-interval_number in
    let joined = c.join.new.self in
    let body = c.args.body.now in
    let waits : inside.waiting ≡ None = ap (λ (t : TallyState). t.waiting) (c.self.view_is ∙ c.note_waiting.ensures) in
    let table = noted_late hash inside.buckets inside.waiting (joined_key inside.joined) in
    let same : table ≡ inside.buckets = λ i. noted_late hash inside.buckets (waits i) (joined_key inside.joined) in
    let old : TallyState =
    record { table = table; heads = inside.heads; has_memory = inside.has_memory; prefix = inside.prefix; joined = inside.joined; waiting = inside.waiting } in
    let new : TallyState =
    record {
      table = with_bucket inside.buckets (hash (joined_key joined)) number.result;
      heads = heads.result;
      has_memory = inside.has_memory;
      prefix = prefix.result;
      joined = joined;
      waiting = Some number.result;
    } in
    let before : HasTallied kind hash r b body old items =
    subst (λ t. HasTallied kind hash r b body t items) (sym c.note_waiting.ensures ∙ sym c.self.view_is) taken in
    let some : 0 < length table = subst (λ (t : List ℕ). 0 < length t) (sym same) c.self.invariant.1 in
    tally_push kind hash r b pos body old new items x (length items % r) number.result (hash (joined_key joined)) _ before some refl
    (λ z. heads.ensures.head (is.1 z)) (λ p. heads.ensures.rest (λ h. let z = is.0 h in omega (arith, p, z))) number.ensures key refl
    (λ _ begun. ap hash (c.in-Some-join.ensures.key begun)) prefix.ensures.hash c.in-Some-join.ensures.begun
    (λ i. with_bucket (sym same i) (hash (joined_key joined)) number.result)
