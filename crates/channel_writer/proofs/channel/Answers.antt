-- `channel_writer::channel` meets its contract. Assumes nothing.
use Rattle.telegram.specs.Telegram.{fits, on_wire}
use Rattle.telegram_types.specs.Face.{channel_said}
use Rattle.channel_writer.proofs.channel.Goals as goal
use Rattle.channel_writer.proofs.channel.Goals.{After-data}

pub returns-in-Data : goal.returns-in-Data
unfolding channel_said
returns-in-Data c = rw c.in-Data.is (goal.at.returns-in-Data c).After-data.«data».ensures

pub returns-in-Acknowledge : goal.returns-in-Acknowledge
unfolding channel_said
returns-in-Acknowledge c = rw c.in-Acknowledge.is c.acknowledge.ensures

pub returns-in-Connection : goal.returns-in-Connection
unfolding channel_said
returns-in-Connection c = rw c.in-Connection.is c.connection.ensures

pub returns-in-Test : goal.returns-in-Test
unfolding channel_said fits on_wire
returns-in-Test c = rw c.in-Test.is c.one.ensures

pub returns-in-Break : goal.returns-in-Break
unfolding channel_said fits on_wire
returns-in-Break c = rw c.in-Break.is c.one-in-Break.ensures

pub returns-in-Disconnect : goal.returns-in-Disconnect
unfolding channel_said fits on_wire
returns-in-Disconnect c = rw c.in-Disconnect.is c.one-in-Disconnect.ensures
