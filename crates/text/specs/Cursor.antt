-- How far a cursor is: what ends a reader's loops is that fewer tokens are left each time.
use Rattle.std.specs.Prelude.{◌<◌, ◌≤◌, length}
use Rattle.text.specs.declared.cursor.Cursor.{Cursor}

-- no more tokens are left than were
abbrev pub GoesOn : Cursor → Cursor → Type 0
GoesOn old new = length new.rest.now ≤ length old.rest.now

-- fewer tokens are left than were
abbrev pub GoesPast : Cursor → Cursor → Type 0
GoesPast old new = length new.rest.now < length old.rest.now
