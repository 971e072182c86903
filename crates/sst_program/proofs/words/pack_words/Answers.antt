use Rattle.std.proofs.Common.{sym, ◌∙◌, ap, arith}
use Rattle.std.specs.Option.{option_map}
use Rattle.sst_program.specs.declared.words.Command.TheVariants.{Pack}
use Rattle.sst_program.proofs.WordTexts.CommandWords.{pack-found, pack-other_count}
use Rattle.sst_program.proofs.words.pack_words.Goals as goal

pub returns-in_default : goal.returns-in_default
returns-in_default g c = sym (ap (option_map (λ x. Pack x)) (pack-other_count g.W.AsSlice.items c.args.words.now (omega arith)))

pub returns-in-Some : goal.returns-in-Some
returns-in-Some g c =
    let found = pack-found g.W.AsSlice.items c.args.words.now c.file-item.result c.interval-item.result c.num-item.result c.den-item.result c.bits-item.result c.per_block-item.result
    c.as_slice-5.result.now c.as_slice-3.result.now c.as_slice.result.now c.as_slice-2.result.now c.as_slice-4.result.now c.as_slice-6.result.now
    c.ratio_in-ratio.result c.index_interval_in.result c.config_in-config.result (omega arith)
    c.file-item.is c.interval-item.is c.num-item.is c.den-item.is c.bits-item.is c.per_block-item.is
    c.as_slice-5.ensures c.as_slice-3.ensures c.as_slice.ensures c.as_slice-2.ensures c.as_slice-4.ensures c.as_slice-6.ensures
    c.ratio_in-ratio.ensures.value c.index_interval_in.ensures.value c.config_in-config.ensures.value in
    sym (ap (option_map (λ x. Pack x)) (found ∙ sym c.packing_in.ensures ∙ c.in-Some.is))

pub returns-in-None : goal.returns-in-None
returns-in-None g c =
    let found = pack-found g.W.AsSlice.items c.args.words.now c.file-item.result c.interval-item.result c.num-item.result c.den-item.result c.bits-item.result c.per_block-item.result
    c.as_slice-5.result.now c.as_slice-3.result.now c.as_slice.result.now c.as_slice-2.result.now c.as_slice-4.result.now c.as_slice-6.result.now
    c.ratio_in-ratio.result c.index_interval_in.result c.config_in-config.result (omega arith)
    c.file-item.is c.interval-item.is c.num-item.is c.den-item.is c.bits-item.is c.per_block-item.is
    c.as_slice-5.ensures c.as_slice-3.ensures c.as_slice.ensures c.as_slice-2.ensures c.as_slice-4.ensures c.as_slice-6.ensures
    c.ratio_in-ratio.ensures.value c.index_interval_in.ensures.value c.config_in-config.ensures.value in
    sym (ap (option_map (λ x. Pack x)) (found ∙ sym c.packing_in.ensures ∙ c.in-None.is))
