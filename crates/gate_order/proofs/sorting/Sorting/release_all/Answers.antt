use Rattle.gate_order.proofs.Vocabulary.{arith, take_all}
use Rattle.gate_order.proofs.Releases.{AreReleased-none, AreReleased-more, reader_waits}
use Rattle.gate_order.proofs.sorting.Sorting.release_all.Goals as goal

pub loop-reader-init : goal.loop-reader-init
loop-reader-init c = AreReleased-none c.args.self.now.waiting.items c.args.self.now.order.items

pub release-requires : goal.release-requires
release-requires c = reader_waits c.args.readers.now c.loop-reader.reader-index 0
    c.args.self.now.waiting.items c.args.self.now.order.items c.loop-reader.self.waiting.items
    c.loop-reader.self.order.items c.loop-reader-test.true c.requires c.loop-reader.invariant

pub loop-reader-preserved : goal.loop-reader-preserved
loop-reader-preserved c =
    AreReleased-more c.args.readers.now c.loop-reader.reader-index 0 c.args.self.now.waiting.items
    c.args.self.now.order.items c.loop-reader.self.waiting.items c.loop-reader.self.order.items
    c.release.new.self.waiting.items c.release.new.self.order.items
    c.loop-reader-test.true c.requires c.loop-reader.invariant c.in_ok-release.ensures

pub returns : goal.returns
returns c = rw (take_all c.loop-reader.reader-index c.args.readers.now (omega arith))
    at c.loop-reader.invariant
