use Rattle.std.proofs.Common.{◌≡◌, ◌≤◌, length}
use Rattle.vv_gate_lex.specs.Lexical.{tokens}
use Rattle.vv_gate_read.specs.Machine.{drive, start}
use Rattle.vv_gate_read.specs.Places.{state_of}
use Rattle.vv_gate_read.proofs.reader.drive.Given as goal

abbrev pub invariant-tokens : goal.invariant-tokens
invariant-tokens l = record {
  same : drive (state_of l.state) (tokens (length l.bytes) l.rest) ≡ drive start (tokens (length l.bytes) l.bytes);
  within : length l.rest ≤ length l.bytes;
}

abbrev pub decreases-tokens : goal.decreases-tokens
decreases-tokens l = length l.rest
