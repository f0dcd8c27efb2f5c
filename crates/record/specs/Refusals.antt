-- The numbers a caller may get back, in the order in which they are checked (RULES Numbers).
use Rattle.std.specs.Prelude.{ℕ}
use Rattle.record.specs.declared.Refusal.{Refusal}
use Rattle.record.specs.declared.Refusal.TheVariants.{LineTooLong, BadSetting, NotUtf8, NoReading, TooManyElements, TooManyParams, Unsuitable, NotFound, OutputShort, CellFull, BadCount, FrameTooLong, BadLength, UnknownVersion, BadField, WrongClaim, Unwritable}

abbrev pub refusal_number : Refusal → ℕ
-- line over 8,192 bytes
refusal_number LineTooLong = 1
-- variant, year, offset or kind out of range
refusal_number BadSetting = 2
-- line not UTF-8
refusal_number NotUtf8 = 3
-- no reading
refusal_number NoReading = 4
-- more elements than the element table
refusal_number TooManyElements = 5
-- more parameters than the parameter table
refusal_number TooManyParams = 6
-- the record, counts or tables do not suit the line; a facility over 23 or a severity over 7, a row or a column that is none
refusal_number Unsuitable = 7
-- lookup finds no such parameter
refusal_number NotFound = 9
-- output shorter than the result, a splitter's buffer under 8,192 bytes, or a tally of under 25 rows
refusal_number OutputShort = 8
-- the cell of a tally holds 4,294,967,295
refusal_number CellFull = 10
-- a stream's count is none
refusal_number BadCount = 11
-- a frame of over 8,192 bytes
refusal_number FrameTooLong = 12
-- a settings file whose length is no multiple of 32
refusal_number BadLength = 13
-- a version of settings that is not known
refusal_number UnknownVersion = 14
-- a settings field out of range, or a reserved byte not zero
refusal_number BadField = 15
-- a claim that is not the line's division
refusal_number WrongClaim = 16
-- a field that breaks the grammar
refusal_number Unwritable = 17
