use Rattle.std.proofs.Common.{ℕ, ◌≡◌, ◌<◌, [], None, length, get_or, arith, sym, ap, ◌∙◌, refl, rules}
use Rattle.std.proofs.lemmas.List.{length_push}
use Rattle.sst_block_core.specs.Body.{items_at}
use Rattle.sst_block_core.specs.Found.{range_bytes}
use Rattle.sst_block_core.proofs.Check.ItemReads.{read_head, stop_head}
use Rattle.sst_block_core.proofs.Check.PassSteps.{along_head, head_place}
use Rattle.sst_block_core.proofs.table.block.check.pass.pass_head.Goals as goal

pub returns-in_err-item-clause-exact : goal.returns-in_err-item-clause-exact
returns-in_err-item-clause-exact g c = λ r xs base pos place k.
    let p = head_place r c.args.number (length xs) pos place in
    let stop : ((n : ℕ) → length xs < n → items_at g.Item.BlockItem.kind r 0 n [] c.args.body.now ≡ None) =
    stop_head g.Item.BlockItem.kind r c.args.body.now xs (length xs) c.args.from.now.offset _ k.read p.0 c.in_err-item.ensures.exact in
    search (rules, stop)

pub head_keeps_order-requires-clause-version : goal.head_keeps_order-requires-clause-version
head_keeps_order-requires-clause-version g c = (c.head_version_of-version.ensures.version c.args.body.now c.in_ok-item.ensures.found c.in_ok-item.ensures.shared).ranges

pub take-requires : goal.take-requires
take-requires g c = (c.head_version_of-version.ensures.version c.args.body.now c.in_ok-item.ensures.found c.in_ok-item.ensures.shared).ranges

pub returns-clause-exact : goal.returns-clause-exact
returns-clause-exact g c = λ r xs base pos place k.
    let kind = g.Item.BlockItem.kind in
    let body = c.args.body.now in
    let e = c.in_ok-item.ensures in
    let item = g.Parsed.ParsedItem.item_of body c.in_ok-item.item in
    let head = c.head_version_of-version in
    let version = head.ensures.version body e.found e.shared in
    let p = head_place r c.args.number (length xs) pos place in
    let read = read_head kind r body xs (length xs) c.args.from.now.offset _ k.read item c.in_ok-item.offset (range_bytes body head.result.key.prefix) p.0 e.exact.0 e.exact.1
    (sym (head.ensures.prefix body e.shared)) in
    let here = c.is_pointed.ensures in
    record {
      items = _;
      count = length_push xs item;
      along = along_head kind g.Item.BlockItem.valid g.Item.Checkable.fits g.Item.BlockItem.is_kind r pos body c.args.pointers.now (λ i. let f = c.type_inv.body i in omega arith)
          xs base c.args.from.now k item head.result c.in_ok-item.offset c.fits.result c.head_keeps_order.result (let f = head.type_inv in omega arith) version
          (c.fits.ensures body) c.head_keeps_order.ensures head.result.key.prefix c.is_pointed.result read
          ((λ h. λ z. ap (λ n. get_or c.args.pointers.now n 0) p.1 ∙ here.0 h), (λ h. here.1 (ap (λ n. get_or c.args.pointers.now n 0) (sym p.1) ∙ h p.0)));
      besides = λ b taken. c.take.ensures r b xs item pos taken ((λ h. p.0), (λ h. refl)) version.key;
    }
