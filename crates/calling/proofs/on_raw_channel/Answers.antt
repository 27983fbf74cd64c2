-- `calling::on_raw_channel` meets its contract. Assumes nothing.
use Rattle.calling.proofs.on_raw_channel.Goals as goal

pub returns-in-Some : goal.returns-in-Some
returns-in-Some g c rates x value does only none lends = c.on_raw_region.ensures _ rates x value c.in-Some.ensures does none lends
