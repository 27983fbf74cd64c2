-- `loading::load_in` meets its contract: a store that is not good leaves the region, a good one is loaded. Assumes nothing.
use Rattle.setups.specs.Saved.{Done}
use Rattle.layout.proofs.Region.{open_of}
use Rattle.loading.proofs.Laws.{taken, refused, loads_all}
use Rattle.loading.proofs.load_in.Goals as goal

pub returns-then-not-good : goal.returns-then-not-good
returns-then-not-good c =
    λ t.
    refused c.args.r.now c.requires c.args.rates.now c.args.store.now t c.word_at.result c.good.result c.word_at.ensures.0 c.good.ensures
    c.if-not-good.true

pub replace-requires : goal.replace-requires
replace-requires c = (
  c.requires,
  record {
    rates = c.args.rates.now;
    done = (let told : Done c.args.rates.now (open_of c.args.r.now) c.args.store.now = taken c.args.r.now c.requires c.args.rates.now c.args.store.now c.word_at.result c.good.result c.word_at.ensures.0 c.good.ensures
        c.if-not-good.false in told);
  },
)

pub returns : goal.returns
returns c =
    λ t.
    loads_all c.args.r.now c.requires c.args.rates.now c.args.store.now t ((let told : Done c.args.rates.now (open_of c.args.r.now) c.args.store.now = taken c.args.r.now c.requires c.args.rates.now c.args.store.now c.word_at.result c.good.result c.word_at.ensures.0 c.good.ensures
    c.if-not-good.false in told)) c.replace.new.r
    (c.replace.ensures c.args.rates.now ((let told : Done c.args.rates.now (open_of c.args.r.now) c.args.store.now = taken c.args.r.now c.requires c.args.rates.now c.args.store.now c.word_at.result c.good.result c.word_at.ensures.0 c.good.ensures
    c.if-not-good.false in told)))
