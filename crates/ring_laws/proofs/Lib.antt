mod Crossings
mod SameMembers
mod AtMostOne
